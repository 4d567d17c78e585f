use Rattle.std.proofs.Common.{◌≡◌, true, false, sym, ap, ◌∙◌, arith}
use Rattle.std.proofs.lemmas.Bool.Decides.{nat_tests}
use Rattle.std.proofs.lemmas.Result.{err_from_is_err_and}
use Rattle.chain_format.specs.Reader.{Part, refused, from}
use Rattle.chain_format.proofs.Steps.{tested-cut, tested_no, tested_yes}
use Rattle.chain_file.proofs.part.Part.field.Goals as goal

pub returns-in_err-value-clause-answer : goal.returns-in_err-value-clause-answer
returns-in_err-value-clause-answer g c =
    let p = err_from_is_err_and c.from_residual.result c.from_residual.ensures.1 in
    rw (p.1, p.2) (tested-cut _ _ _ _ _ c.in_err-value.ensures.answer)

pub returns-then-not-contains-clause-answer : goal.returns-then-not-contains-clause-answer
returns-then-not-contains-clause-answer g c =
    let wrong : from c.args.low c.args.top c.in_ok-value.value ≡ false = grind (arith, nat_tests) in
    tested_no _ _ _ _ _ _ c.in_ok-value.ensures.answer wrong ∙ ap refused (ap (λ (p : Part). p.fault c.args.self.now.at) (sym c.number.ensures.same) ∙ sym c.refusal.ensures)

pub returns-clause-answer : goal.returns-clause-answer
returns-clause-answer g c =
    let right : from c.args.low c.args.top c.in_ok-value.value ≡ true = grind (arith, nat_tests) in
    tested_yes _ _ _ _ _ _ c.in_ok-value.ensures.answer right
