use Rattle.std.proofs.Common.{map, ◌≡◌, ◌+◌, [], ◌∷◌, ◌++◌, take, set, sym, refl, ap, ◌∙◌, arith}
use Rattle.std.proofs.lemmas.List.{take_all, take_more_set, map-append}
use Rattle.std.proofs.lemmas.Result.{err_from_is_err_and}
use Rattle.chain.specs.declared.record.EdgeRecord.{EdgeRecord}
use Rattle.chain.specs.Filled.{filled_edge}
use Rattle.chain_format.specs.Reader.{Part}
use Rattle.chain_format.specs.Format.{version1, edge}
use Rattle.chain_format.proofs.Loops.{took_more, took_all, reached_stop}
use Rattle.chain_file.proofs.row.read_edges.Goals as goal

pub returns-in_err-edge-clause-err : goal.returns-in_err-edge-clause-err
returns-in_err-edge-clause-err c =
    let p = err_from_is_err_and c.from_residual.result c.from_residual.ensures.1 in
    let l = c.loop-place in
    let read = ap (λ (p : Part). edge version1 p c.args.states c.args.size l.low l.part.at) (sym l.invariant.same) ∙ c.in_err-edge.ensures.answer in
    rw (p.1, p.2) (reached_stop _ _ _ _ _ _ _ _ _ (l.invariant.took.0, l.invariant.took.1) (omega arith) read)

pub loop-place-preserved : goal.loop-place-preserved
loop-place-preserved c =
    let l = c.loop-place in
    let h = c.in_ok-edge.ensures.answer in
    let read = ap (λ (p : Part). edge version1 p c.args.states c.args.size l.low l.part.at) (sym l.invariant.same) ∙ h.1 in
    let i = l.place-index in
    let x = c.in_ok-edge.edge in
    let front : take (i + 1) (set l.into i x) ≡ map filled_edge (l.invariant.took.0 ++ h.0 ∷ []) =
    take_more_set l.into i x (omega arith) ∙ rw (map-append, l.invariant.took.2, h.2) refl in
    record {
      same = c.read_edge.ensures.same ∙ l.invariant.same;
      near = omega arith;
      took = (
        l.invariant.took.0 ++ h.0 ∷ [],
        took_more _ _ _ _ _ _ _ _ _ _ _ l.invariant.took.1 read (ap (λ (r : EdgeRecord). r.successor + 1) (sym h.2)),
        front,
      );
    }

pub returns-clause-ok : goal.returns-clause-ok
returns-clause-ok c =
    let l = c.loop-place in
    let all = take_all l.place-index l.into (omega arith) in
    (l.invariant.took.0, took_all _ _ _ _ _ _ _ _ _ _ l.invariant.took.1 (omega arith) refl, sym all ∙ l.invariant.took.2)
