use Rattle.std.proofs.Common.{sym, refl, ap, ◌∙◌, arith}
use Rattle.std.proofs.lemmas.List.{take_all, take_more_set}
use Rattle.std.proofs.lemmas.Result.{err_from_is_err_and}
use Rattle.chain_format.specs.Reader.{Part, got}
use Rattle.chain_format.specs.Format.{rate}
use Rattle.chain_format.proofs.Loops.{took_more, took_all, reached_stop}
use Rattle.chain_file.proofs.row.read_rates.Goals as goal

pub returns-in_err-rate-clause-answer : goal.returns-in_err-rate-clause-answer
returns-in_err-rate-clause-answer c =
    let p = err_from_is_err_and c.from_residual.result c.from_residual.ensures.1 in
    let l = c.loop-place in
    let read = ap (λ (p : Part). rate p c.args.rates l.low l.part.at) (sym l.invariant.same) ∙ c.in_err-rate.ensures.answer in
    rw (p.1, p.2) (reached_stop _ _ _ _ _ _ _ _ _ (_, l.invariant.took) (omega arith) read)

pub loop-place-preserved : goal.loop-place-preserved
loop-place-preserved c =
    let l = c.loop-place in
    let read = ap (λ (p : Part). rate p c.args.rates l.low l.part.at) (sym l.invariant.same) ∙ c.in_ok-rate.ensures.answer in
    record {
      same = c.field.ensures.same ∙ l.invariant.same;
      near = omega arith;
      took = rw (take_more_set l.into l.place-index c.in_ok-rate.rate (omega arith)) (took_more _ _ _ _ _ _ _ _ _ _ _ l.invariant.took read refl);
    }

pub returns-clause-answer : goal.returns-clause-answer
returns-clause-answer c =
    let l = c.loop-place in
    let all = take_all l.place-index l.into (omega arith) in
    took_all _ _ _ _ _ _ _ _ _ _ l.invariant.took (omega arith) refl ∙ ap (λ xs. got xs l.part.at) all
