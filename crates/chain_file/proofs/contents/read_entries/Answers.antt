use Rattle.std.proofs.Common.{refl, ap, ◌∙◌, arith}
use Rattle.std.proofs.lemmas.List.{take_all, take_more_set}
use Rattle.std.proofs.lemmas.Result.{err_from_is_err_and}
use Rattle.chain_format.specs.Reader.{got}
use Rattle.chain_format.specs.Format.{entry}
use Rattle.chain_format.proofs.Loops.{took_more, took_all, reached_stop}
use Rattle.chain_file.proofs.Parts.{held}
use Rattle.chain_file.proofs.contents.read_entries.Goals as goal

pub returns-in_err-length-clause-answer : goal.returns-in_err-length-clause-answer
returns-in_err-length-clause-answer c =
    let p = err_from_is_err_and c.from_residual.result c.from_residual.ensures.1 in
    let l = c.loop-place in
    let read = held (λ p. entry p (l.kind, l.offset) l.part.at) l.invariant.same c.in_err-length.ensures.answer in
    rw (p.1, p.2) (reached_stop _ _ _ _ _ _ _ _ _ (_, l.invariant.took) (omega arith) read)

pub loop-place-preserved : goal.loop-place-preserved
loop-place-preserved c =
    let l = c.loop-place in
    let read = held (λ p. entry p (l.kind, l.offset) l.part.at) l.invariant.same c.in_ok-length.ensures.answer in
    record {
      same = c.read_entry.ensures.same ∙ l.invariant.same;
      moved = omega (arith, l.invariant.moved, c.in_ok-length.ensures.moved);
      kinds = omega (arith, l.invariant.kinds);
      room = omega (arith, l.invariant.room);
      took = rw (take_more_set l.into l.place-index c.in_ok-length.length (omega arith)) (took_more _ _ _ _ _ _ _ _ _ _ _ l.invariant.took read refl);
    }

pub returns-clause-moved : goal.returns-clause-moved
returns-clause-moved c = omega (arith, c.loop-place.invariant.moved)

pub returns-clause-answer : goal.returns-clause-answer
returns-clause-answer c =
    let l = c.loop-place in
    let all = take_all l.place-index l.into (omega arith) in
    took_all _ _ _ _ _ _ _ _ _ _ l.invariant.took (omega arith) refl ∙ ap (λ xs. got xs l.part.at) all
