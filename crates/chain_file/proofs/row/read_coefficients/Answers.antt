use Rattle.std.proofs.Common.{◌≡◌, ◌+◌, [], ◌∷◌, ◌++◌, take, set, sym, refl, ap, ◌∙◌, arith, rules, w16, SFits, to_z, of_z}
use Rattle.std.proofs.lemmas.Int.{to_z-of_z}
use Rattle.std.proofs.lemmas.List.{take_all, take_more_set}
use Rattle.std.proofs.lemmas.Result.{err_from_is_err_and}
use Rattle.chain_format.specs.Reader.{Part, got}
use Rattle.chain_format.specs.Format.{coefficient}
use Rattle.chain_format.proofs.Loops.{took_more, took_all, reached_stop}
use Rattle.chain_file.proofs.row.read_coefficients.Goals as goal

pub returns-in_err-place-clause-answer : goal.returns-in_err-place-clause-answer
returns-in_err-place-clause-answer c =
    let p = err_from_is_err_and c.from_residual.result c.from_residual.ensures.1 in
    let l = c.loop-place in
    let read = ap (λ (p : Part). coefficient p l.part.at) (sym l.invariant.same) ∙ c.in_err-place.ensures.answer in
    rw (p.1, p.2) (reached_stop _ _ _ _ _ _ _ _ _ (_, l.invariant.took) (omega arith) read)

pub loop-place-preserved : goal.loop-place-preserved
loop-place-preserved c =
    let l = c.loop-place in
    let read = ap (λ (p : Part). coefficient p l.part.at) (sym l.invariant.same) ∙ c.in_ok-place.ensures.answer in
    let i = l.place-index in
    let v = c.in_ok-place.field-0 in
    let fits : SFits w16 v = search rules in
    let z = to_z w16 (of_z w16 v) in
    let front : take (i + 1) (set l.into i z) ≡ take i l.into ++ v ∷ [] = take_more_set l.into i z (omega arith) ∙ ap (λ x. take i l.into ++ x ∷ []) (to_z-of_z w16 v fits) in
    record {
      same = c.coefficient.ensures.same ∙ l.invariant.same;
      near = omega arith;
      took = rw front (took_more _ _ _ _ _ _ _ _ _ _ _ l.invariant.took read refl);
    }

pub returns-clause-answer : goal.returns-clause-answer
returns-clause-answer c =
    let l = c.loop-place in
    let all = take_all l.place-index l.into (omega arith) in
    took_all _ _ _ _ _ _ _ _ _ _ l.invariant.took (omega arith) refl ∙ ap (λ xs. got xs l.part.at) all
