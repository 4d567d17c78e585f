use Rattle.std.proofs.Common.{◌≡◌, ◌+◌, length, sym, ap, ◌∙◌, arith}
use Rattle.std.proofs.lemmas.Bool.{eq-eqb, ne_eqb}
use Rattle.std.proofs.lemmas.Result.{err_from_is_err_and}
use Rattle.chain.specs.declared.refusal.Refusal.TheVariants.{BadMark}
use Rattle.chain_format.specs.Reader.{part}
use Rattle.chain_format.specs.Format.{version1, marks, rows_on}
use Rattle.chain_format.proofs.Steps.{then_got, then_cut, checked_yes, checked_no}
use Rattle.chain_file.specs.Known.{numbers_of}
use Rattle.chain_file.proofs.Parts.{Shows-along}
use Rattle.chain_file.proofs.check.check_from_marks.Goals as goal

pub returns-then-l-n : goal.returns-then-l-n
returns-then-l-n c = checked_no _ _ _ _ (ne_eqb _ _ c.if-l-n.true)

pub returns-in_err-check_marks : goal.returns-in_err-check_marks
returns-in_err-check_marks c =
    let p = err_from_is_err_and c.from_residual.result c.from_residual.ensures.1 in
    let n = c.args.n.states in
    let end : 51 + n ≡ 44 + c.args.l.numbers + c.args.l.marks = omega (arith, c.requires.seven, c.if-l-n.false) in
    let m = ap (λ e. marks (part c.args.bytes.now e BadMark) n 51) (sym end) ∙ c.in_err-check_marks.ensures in
    rw (p.1, p.2) (checked_yes _ _ _ _ (eq-eqb _ _ c.if-l-n.false) ∙ then_cut _ _ _ _ m)

pub returns-then-l-n-2 : goal.returns-then-l-n-2
returns-then-l-n-2 c =
    let n = c.args.n.states in
    let end : 51 + n ≡ 44 + c.args.l.numbers + c.args.l.marks = omega (arith, c.requires.seven, c.if-l-n.false) in
    let m = ap (λ e. marks (part c.args.bytes.now e BadMark) n 51) (sym end) ∙ c.in_ok-check_marks.ensures.1 in
    checked_yes _ _ _ _ (eq-eqb _ _ c.if-l-n.false) ∙ then_got _ _ _ _ _ m ∙ checked_no _ _ _ _ (ne_eqb _ _ c.if-l-n-2.true)

pub returns : goal.returns
returns c =
    let l = c.args.l in
    let n = c.args.n in
    let bs = c.args.bytes.now in
    let end : 51 + n.states ≡ 44 + l.numbers + l.marks = omega (arith, c.requires.seven, c.if-l-n.false) in
    let ms = c.in_ok-check_marks.ensures.0 in
    let m = ap (λ e. marks (part bs e BadMark) n.states 51) (sym end) ∙ c.in_ok-check_marks.ensures.1 in
    let whole : 44 + l.numbers + l.marks + l.offsets + l.rows ≡ length bs = omega (arith, c.requires.whole) in
    let front = checked_yes _ _ _ _ (eq-eqb _ _ c.if-l-n.false) ∙ then_got _ _ _ _ _ m ∙ checked_yes _ _ _ _ (eq-eqb _ _ c.if-l-n-2.false)
    ∙ ap (λ e. rows_on version1 bs e (numbers_of n) ms (51 + n.states)) whole in
    Shows-along _ _ _ _ _ front (c.check_from_rows.ensures ms)
