use Rattle.std.proofs.Common.{◌+◌, ap, ◌∙◌, arith, rules}
use Rattle.std.proofs.lemmas.Bool.{eq-eqb, ne_eqb}
use Rattle.std.proofs.lemmas.Result.{err_from_is_err_and, on_ok_weaker}
use Rattle.chain_format.specs.Format.{version1, numbers, taken, marks_on}
use Rattle.chain_format.specs.Theorems.{Bytes}
use Rattle.chain_format.proofs.Holds.{told}
use Rattle.chain_format.proofs.TripLaws.{read_then_write}
use Rattle.chain_format.proofs.OpenLaws.{opened-is}
use Rattle.chain_format.proofs.Steps.{then_got, then_cut, checked_yes, checked_no}
use Rattle.chain_file.specs.Known.{numbers_of}
use Rattle.chain_file.proofs.Parts.{begun, Shows-along, Shows-ok, Shows-err}
use Rattle.chain_file.proofs.check.check.Goals as goal

pub returns-in_err-l-clause-err : goal.returns-in_err-l-clause-err
returns-in_err-l-clause-err c =
    let p = err_from_is_err_and c.from_residual.result c.from_residual.ensures.1 in
    rw (p.1, p.2) (opened-is _ ∙ then_cut _ _ _ _ c.in_err-l.ensures.answer)

pub returns-then-bodies-bytes-clause-err : goal.returns-then-bodies-bytes-clause-err
returns-then-bodies-bytes-clause-err c =
    opened-is _ ∙ then_got _ _ _ _ _ c.in_ok-l.ensures.answer ∙ checked_no _ _ _ _ (ne_eqb _ _ (λ e. c.if-bodies-bytes.true (omega (arith, e))))

pub returns-then-l-ne7-clause-err : goal.returns-then-l-ne7-clause-err
returns-then-l-ne7-clause-err c =
    opened-is _ ∙ then_got _ _ _ _ _ c.in_ok-l.ensures.answer ∙ checked_yes _ _ _ _ (eq-eqb _ _ (omega (arith, c.if-bodies-bytes.false)))
    ∙ checked_no _ _ _ _ (ne_eqb _ _ c.if-l-ne7.true)

pub returns-in_err-n-clause-err : goal.returns-in_err-n-clause-err
returns-in_err-n-clause-err c =
    let p = err_from_is_err_and c.from_residual-in_err-n.result c.from_residual-in_err-n.ensures.1 in
    let numbers = begun (numbers version1) c.new-part.ensures.value c.new-part.ensures.place c.in_err-n.ensures.answer in
    rw (p.1, p.2)
    (opened-is _ ∙ then_got _ _ _ _ _ c.in_ok-l.ensures.answer ∙ checked_yes _ _ _ _ (eq-eqb _ _ (omega (arith, c.if-bodies-bytes.false)))
    ∙ checked_yes _ _ _ _ (eq-eqb _ _ c.if-l-ne7.false) ∙ then_cut _ _ _ _ numbers)

pub returns : goal.returns
returns c =
    let bs = c.args.bytes.now in
    let l = c.in_ok-l.l in
    let n = numbers_of c.in_ok-n.n in
    let numbers = begun (numbers version1) c.new-part.ensures.value c.new-part.ensures.place c.in_ok-n.ensures.answer in
    let end = c.in_ok-n.ensures.place ∙ ap (λ k. k + 7) c.new-part.ensures.place in
    let front = opened-is _ ∙ then_got _ _ _ _ _ c.in_ok-l.ensures.answer ∙ checked_yes _ _ _ _ (eq-eqb _ _ (omega (arith, c.if-bodies-bytes.false)))
    ∙ checked_yes _ _ _ _ (eq-eqb _ _ c.if-l-ne7.false) ∙ then_got _ _ _ _ _ numbers
    ∙ ap (λ at. marks_on version1 bs l.numbers l.marks l.offsets l.rows n at) end in
    let all = Shows-along _ _ _ c.check_from_marks.result _ front c.check_from_marks.ensures in
    let ok = Shows-ok _ _ c.check_from_marks.result _ all in
    let fits : Bytes bs = search rules in
    record {
      ok = ok;
      told = on_ok_weaker c.check_from_marks.result (λ o. told bs fits (ap taken o.1)) ok;
      again = on_ok_weaker c.check_from_marks.result (λ o. (read_then_write bs fits (ap taken o.1)).1) ok;
      err = Shows-err _ _ c.check_from_marks.result _ all;
    }
