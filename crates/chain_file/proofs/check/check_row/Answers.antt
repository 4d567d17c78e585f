use Rattle.std.proofs.Common.{sym, refl, ◌∙◌}
use Rattle.std.proofs.lemmas.Result.{err_from_is_err_and}
use Rattle.chain_format.proofs.Steps.{checked_no, checked_yes, tested-cut, tested_no, tested_yes}
use Rattle.chain_file.proofs.Fills.{sums_are}
use Rattle.chain_file.proofs.check.check_row.Goals as goal

pub returns-then-not-leads_to-clause-answer : goal.returns-then-not-leads_to-clause-answer
returns-then-not-leads_to-clause-answer c = checked_no _ _ _ _ (sym c.if-not-leads_to.ensures)

pub returns-in_err-row-clause-answer : goal.returns-in_err-row-clause-answer
returns-in_err-row-clause-answer c =
    let p = err_from_is_err_and c.from_residual.result c.from_residual.ensures.1 in
    rw (p.1, p.2) (checked_yes _ _ _ _ (sym c.if-not-leads_to.ensures) ∙ tested-cut _ _ _ _ _ c.in_err-row.ensures.answer)

pub returns-then-not-tally-clause-answer : goal.returns-then-not-tally-clause-answer
returns-then-not-tally-clause-answer c =
    let f = c.in_ok-row.ensures.answer in
    checked_yes _ _ _ _ (sym c.if-not-leads_to.ensures) ∙ tested_no _ _ _ _ f.0 _ f.1 (sums_are _ f.0 _ _ _ f.2 c.power.ensures.value c.if-not-tally.ensures)

pub returns-clause-answer : goal.returns-clause-answer
returns-clause-answer c =
    let f = c.in_ok-row.ensures.answer in
    (f.0, checked_yes _ _ _ _ (sym c.if-not-leads_to.ensures) ∙ tested_yes _ _ _ _ f.0 _ f.1 (sums_are _ f.0 _ _ _ f.2 c.power.ensures.value c.if-not-tally.ensures), refl)
