use Rattle.std.proofs.Common.{◌≡◌, ◌<◌, ◌≤◌, true, false, ℤ, sym, ap, ◌∙◌, arith, rules, w16, to_z, of_z, SFits}
use Rattle.std.specs.Prelude.{unsigned_abs}
use Rattle.std.proofs.lemmas.Int.{to_z-of_z}
use Rattle.std.proofs.lemmas.Result.{err_from_is_err_and}
use Rattle.chain_format.specs.Reader.{Part, refused, got}
use Rattle.chain_format.specs.Format.{small}
use Rattle.chain_format.proofs.Steps.{tested-cut, tested_no, tested_yes, mapped-cut, mapped-got}
use Rattle.chain_file.proofs.Parts.{small_by_size, large_by_size}
use Rattle.chain_file.proofs.part.Part.coefficient.Goals as goal

pub returns-in_err-bits-clause-answer : goal.returns-in_err-bits-clause-answer
returns-in_err-bits-clause-answer c =
    let p = err_from_is_err_and c.from_residual.result c.from_residual.ensures.1 in
    rw (p.1, p.2) (mapped-cut _ _ _ _ (tested-cut _ _ _ _ _ c.in_err-bits.ensures.answer))

pub returns-then-unsigned_abs-gt8000-clause-answer : goal.returns-then-unsigned_abs-gt8000-clause-answer
returns-then-unsigned_abs-gt8000-clause-answer c =
    let z : ℤ = c.cast_signed-value.result in
    let fits : SFits w16 z = search rules in
    let same : to_z w16 (of_z w16 z) ≡ to_z w16 c.in_ok-bits.bits = to_z-of_z w16 z fits ∙ c.cast_signed-value.ensures in
    let large : 8000 < unsigned_abs (to_z w16 c.in_ok-bits.bits) = rw (← same) (omega (arith, c.unsigned_abs.ensures.value)) in
    let wrong : small c.in_ok-bits.bits ≡ false = large_by_size c.in_ok-bits.bits c.in_ok-bits.ensures.under large in
    mapped-cut _ _ _ _ (tested_no _ _ _ _ _ _ c.in_ok-bits.ensures.answer wrong)
    ∙ ap refused (ap (λ (p : Part). p.fault c.args.self.now.at) (sym c.number.ensures.same) ∙ sym c.refusal.ensures)

pub returns-clause-answer : goal.returns-clause-answer
returns-clause-answer c =
    let z : ℤ = c.cast_signed-value.result in
    let fits : SFits w16 z = search rules in
    let same : to_z w16 (of_z w16 z) ≡ to_z w16 c.in_ok-bits.bits = to_z-of_z w16 z fits ∙ c.cast_signed-value.ensures in
    let small_enough : unsigned_abs (to_z w16 c.in_ok-bits.bits) ≤ 8000 = rw (← same) (omega (arith, c.unsigned_abs.ensures.value)) in
    let right : small c.in_ok-bits.bits ≡ true = small_by_size c.in_ok-bits.bits c.in_ok-bits.ensures.under small_enough in
    mapped-got _ _ _ _ _ (tested_yes _ _ _ _ _ _ c.in_ok-bits.ensures.answer right) ∙ ap (λ v. got v c.number.new.self.at) (sym same)
