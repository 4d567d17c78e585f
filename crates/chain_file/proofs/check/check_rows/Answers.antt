use Rattle.std.proofs.Common.{◌≡◌, ◌+◌, ◌*◌, refl, ◌∙◌, arith}
use Rattle.std.proofs.lemmas.Result.{err_from_is_err_and}
use Rattle.chain_format.specs.Format.{version1, row}
use Rattle.chain_format.proofs.Loops.{reached_more, reached_all, reached_stop}
use Rattle.chain_file.proofs.Parts.{held}
use Rattle.chain_file.proofs.check.check_rows.Goals as goal

pub returns-in_err-check_row-clause-answer : goal.returns-in_err-check_row-clause-answer
returns-in_err-check_row-clause-answer c =
    let p = err_from_is_err_and c.from_residual.result c.from_residual.ensures.1 in
    let l = c.loop-s in
    let n = c.args.n in
    let read = held (λ p. row version1 p c.args.offsets (c.args.offsets + 4 * n.states) n.states n.rates n.unit l.s l.part.at) l.invariant.same c.in_err-check_row.ensures.answer in
    rw (p.1, p.2) (reached_stop _ _ _ _ _ _ _ _ _ l.invariant.reached (omega arith) read)

pub loop-s-preserved : goal.loop-s-preserved
loop-s-preserved c =
    let l = c.loop-s in
    let n = c.args.n in
    let f = c.in_ok-check_row.ensures.answer in
    let read = held (λ p. row version1 p c.args.offsets (c.args.offsets + 4 * n.states) n.states n.rates n.unit l.s l.part.at) l.invariant.same f.1 in
    record {
      same = c.check_row.ensures.same ∙ l.invariant.same;
      near = omega (arith, c.check_row.ensures.place, l.invariant.near);
      reached = reached_more _ _ _ _ _ _ _ _ f.0 _ l.invariant.reached read refl;
    }

pub returns-clause-answer : goal.returns-clause-answer
returns-clause-answer c =
    let e : c.loop-s.s ≡ c.args.n.states = omega arith in
    let h = reached_all _ _ _ _ _ _ _ _ _ c.loop-s.invariant.reached e refl in
    (h.0, h.1, refl)
