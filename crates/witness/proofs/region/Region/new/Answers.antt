use Rattle.std.proofs.Common.{◌≡◌, ℕ, ◌<◌, true, false, Some, None, Option, is_some, sym, refl, ◌∙◌, arith, rules}
use Rattle.std.proofs.lemmas.Bool.Decides.{nat_tests}
use Rattle.theory.specs.Maps.{side_ok}
use Rattle.theory.proofs.Lowest.{lowest_none}
use Rattle.witness.proofs.region.Region.new.Goals as goal
use Rattle.witness.proofs.region.Region.new.Goals.{Else-is_some}

none : (o : Option ℕ) → is_some o ≡ false → o ≡ None
none None e = refl
none (Some s) e = cc

side : (c : goal.Else-is_some) (r : ℕ) → r < c.args.rates → side_ok c.args.grid c.args.low c.args.high r ≡ true
side c = lowest_none (side_ok c.args.grid c.args.low c.args.high) c.args.rates
    (sym (c.lowest-bad_side.ensures (side_ok c.args.grid c.args.low c.args.high) (λ k r l p. search rules)) ∙ none _ (sym c.is_some.ensures ∙ c.if-is_some.false))

pub invariant_of-result-clause-wide : goal.invariant_of-result-clause-wide
invariant_of-result-clause-wide c = λ r h. let s = side c r h in grind (arith, nat_tests)

pub invariant_of-result-clause-within : goal.invariant_of-result-clause-within
invariant_of-result-clause-within c = λ r h. let s = side c r h in grind (arith, nat_tests)
