use Rattle.std.proofs.Common.{◌≡◌, ◌<◌, [], ◌∷◌, ◌++◌, length, get_or, sym, refl, ap, ◌∙◌, rules, tests, arith}
use Rattle.std.specs.List.{slice_split}
use Rattle.std.proofs.lemmas.Iterator.Consumers.{YieldsList-at, YieldsList-turn, YieldsList-end}
use Rattle.std.proofs.lemmas.Iterator.Splits.{YieldsList-from_slice_split}
use Rattle.std.proofs.lemmas.List.{append-nil, append_assoc, length_push}
use Rattle.script.proofs.Digits.{space, split_numbers, stuck, reached_none, reached_more, reached_all, reached_as}
use Rattle.script.proofs.numbers.read_spaced.Goals as goal
use Rattle.script.proofs.numbers.read_spaced.Goals.{In-Some}

-- the text of this turn is the next of those between spaces
turn : (w : In-Some) → let parts = slice_split space w.args.text.now in let i = length w.loop-digits.yielded in (i < length parts) × (w.in-Some.digits.now ≡ get_or parts i w.in-Some.digits.now)
turn w =
    YieldsList-turn
    (YieldsList-at w.into_iter-digits-iterator.ensures.into_iter_gives
    (YieldsList-from_slice_split _ space w.args.text.now w.split-digits-items.ensures.rest w.split-digits-items.ensures.done w.split-digits-items.ensures.closure (λ x b q k. search (rules, tests))))
    w.loop-digits.yielded _ w.loop-digits.yielded_by _ _ w.in-Some.digits w.in-Some.is w.next.ensures.steps

pub loop-digits-init : goal.loop-digits-init
loop-digits-init c = ([], sym (append-nil _), reached_none _)

pub returns-in_default : goal.returns-in_default
returns-in_default c =
    let i = c.loop-digits.invariant in
    (i.0, split_numbers c.args.text.now ∙ stuck c.in-Some.digits.now i.2 (turn (goal.at.returns-in_default c).In-Some) (sym c.in_default.is ∙ c.read_number.ensures), i.1)

pub loop-digits-preserved : goal.loop-digits-preserved
loop-digits-preserved c =
    let i = c.loop-digits.invariant in
    let number = c.in-Some-read_number.number in (
      i.0 ++ number ∷ [],
      c.in_ok-push.ensures.items ∙ ap (λ t. t ++ number ∷ []) i.1 ∙ append_assoc _ i.0 _,
      reached_as refl (length_push c.loop-digits.yielded c.in-Some.digits)
          (reached_more c.in-Some.digits.now number i.2 (turn (goal.at.loop-digits-preserved c).In-Some) (sym c.in-Some-read_number.is ∙ c.read_number.ensures)),
    )

pub returns : goal.returns
returns c =
    let e = YieldsList-end
    (YieldsList-at c.into_iter-digits-iterator.ensures.into_iter_gives
    (YieldsList-from_slice_split _ space c.args.text.now c.split-digits-items.ensures.rest c.split-digits-items.ensures.done c.split-digits-items.ensures.closure (λ x b q k. search (rules, tests))))
    c.loop-digits.yielded _ c.loop-digits.yielded_by _ _ c.in-None.is c.next.ensures.steps in
    let i = c.loop-digits.invariant in
    (i.0, split_numbers c.args.text.now ∙ reached_all i.2 (omega (arith, e.1)), i.1)
