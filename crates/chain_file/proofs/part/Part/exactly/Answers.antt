use Rattle.std.proofs.Common.{sym, ap, ◌∙◌}
use Rattle.std.proofs.lemmas.Result.{err_from_is_err_and}
use Rattle.chain_format.specs.Reader.{Part, refused}
use Rattle.chain_format.proofs.Steps.{tested-cut}
use Rattle.chain_file.proofs.Parts.{field_is, field_not}
use Rattle.chain_file.proofs.part.Part.exactly.Goals as goal

pub returns-in_err-value-clause-answer : goal.returns-in_err-value-clause-answer
returns-in_err-value-clause-answer g c =
    let p = err_from_is_err_and c.from_residual.result c.from_residual.ensures.1 in
    rw (p.1, p.2) (tested-cut _ _ _ _ _ c.in_err-value.ensures.answer)

pub returns-then-value-due-clause-answer : goal.returns-then-value-due-clause-answer
returns-then-value-due-clause-answer g c =
    field_not _ _ _ _ _ _ c.in_ok-value.ensures.answer c.if-value-due.true
    ∙ ap refused (ap (λ (p : Part). p.fault c.args.self.now.at) (sym c.number.ensures.same) ∙ sym c.refusal.ensures)

pub returns-clause-answer : goal.returns-clause-answer
returns-clause-answer g c = field_is _ _ _ _ _ _ c.in_ok-value.ensures.answer c.if-value-due.false
