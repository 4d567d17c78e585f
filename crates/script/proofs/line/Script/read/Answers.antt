use Rattle.std.proofs.Common.{ℕ, length, map, sym, refl, ap, ◌∙◌, rules, tests, arith}
use Rattle.std.proofs.lemmas.Iterator.Consumers.{YieldsList-at, YieldsList-turn, YieldsList-end}
use Rattle.std.proofs.lemmas.List.{length_push, take_all}
use Rattle.script.specs.Reading.{line_said, lines_of}
use Rattle.script.specs.Values.{without_break}
use Rattle.script.proofs.Lines.{YieldsList-from_pieces, read_none, read_more, read_as}
use Rattle.script.proofs.Grammar.{reads_the_grammar, said_as}
use Rattle.script.proofs.line.Script.read.Goals as goal

pub loop-line-init : goal.loop-line-init
loop-line-init c = read_as c.new-lines.ensures.items c.new-numbers.ensures.items refl (read_none _)

pub loop-line-preserved : goal.loop-line-preserved
loop-line-preserved c =
    let t = YieldsList-turn
    (YieldsList-at c.into_iter-line-iterator.ensures.into_iter_gives
    (YieldsList-from_pieces _ c.args.bytes.now c.split_inclusive-line-items.ensures.rest c.split_inclusive-line-items.ensures.closure (λ x b q k. search (rules, tests))))
    c.loop-line.yielded _ c.loop-line.yielded_by _ _ c.in-Some.line c.in-Some.is c.next.ensures.steps in
    read_as c.in_ok-push.ensures.items refl (length_push c.loop-line.yielded c.in-Some.line)
    (read_more (without_break c.in-Some.line.now) _ _ c.loop-line.invariant t (rw (sym c.without_break.ensures) c.in_ok-read_line.ensures))

pub returns : goal.returns
returns c =
    let e = YieldsList-end
    (YieldsList-at c.into_iter-line-iterator.ensures.into_iter_gives
    (YieldsList-from_pieces _ c.args.bytes.now c.split_inclusive-line-items.ensures.rest c.split_inclusive-line-items.ensures.closure (λ x b q k. search (rules, tests))))
    c.loop-line.yielded _ c.loop-line.yielded_by _ _ c.in-None.is c.next.ensures.steps in
    let says = λ (n : ℕ). c.loop-line.invariant.says n ∙ ap (map (line_said n)) (take_all (length c.loop-line.yielded) (lines_of c.args.bytes.now) (omega (arith, e.1))) in
    record { says = says; grammar = λ n. said_as n c.args.bytes.now _ (says n) (reads_the_grammar n c.args.bytes.now).0 }
