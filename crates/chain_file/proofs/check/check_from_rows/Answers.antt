use Rattle.std.proofs.Common.{◌≡◌, length, sym, refl, ap, ◌∙◌, arith}
use Rattle.std.proofs.lemmas.Bool.{eq-eqb, ne_eqb, eqb-true, false≢true}
use Rattle.std.proofs.lemmas.Result.{err_from_is_err_and}
use Rattle.chain_format.specs.Reader.{Part}
use Rattle.chain_format.specs.Format.{version1, rows}
use Rattle.chain_format.proofs.Steps.{then_got, then_cut, checked_yes, checked_no, done-got}
use Rattle.chain_file.specs.Known.{numbers_of}
use Rattle.chain_file.proofs.Parts.{held}
use Rattle.chain_file.proofs.check.check_from_rows.Goals as goal

pub returns-in_err-check_rows : goal.returns-in_err-check_rows
returns-in_err-check_rows c =
    let p = err_from_is_err_and c.from_residual.result c.from_residual.ensures.1 in
    let read = held (λ p. rows version1 p (numbers_of c.args.n) c.args.at) c.new-part.ensures.value c.in_err-check_rows.ensures.answer in
    rw (p.1, p.2) (λ ms. then_cut _ _ _ _ read)

pub returns-then-not-is_empty : goal.returns-then-not-is_empty
returns-then-not-is_empty c = λ ms.
    let part = c.check_rows.new.part in
    let read = held (λ p. rows version1 p (numbers_of c.args.n) c.args.at) c.new-part.ensures.value c.in_ok-check_rows.ensures.answer.1 in
    let end = ap (λ (p : Part). p.end) (c.check_rows.ensures.same ∙ c.new-part.ensures.value) in
    let short = λ (e : part.at ≡ length c.args.bytes.now). false≢true (c.if-not-is_empty.ensures ∙ eq-eqb (length part.rest.now) 0 (omega arith)) in
    then_got _ _ _ _ _ read ∙ checked_no _ _ _ _ (ne_eqb _ _ short)

pub returns : goal.returns
returns c = λ ms.
    let part = c.check_rows.new.part in
    let read = held (λ p. rows version1 p (numbers_of c.args.n) c.args.at) c.new-part.ensures.value c.in_ok-check_rows.ensures.answer.1 in
    let end = ap (λ (p : Part). p.end) (c.check_rows.ensures.same ∙ c.new-part.ensures.value) in
    let none : length part.rest.now ≡ 0 = eqb-true _ _ (sym c.if-not-is_empty.ensures) in
    let whole : part.at ≡ length c.args.bytes.now = omega (arith, end, none) in
    (_, then_got _ _ _ _ _ read ∙ checked_yes _ _ _ _ (eq-eqb _ _ whole) ∙ done-got _ _ _ whole, refl)
