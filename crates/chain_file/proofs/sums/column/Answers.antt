use Rattle.std.proofs.Common.{◌≡◌, ◌≤◌, [], length, get_or, ℤ, pos, ap, ◌∙◌, arith, w16, SFits, rules}
use Rattle.std.proofs.lemmas.Int.{ints, to_z-of_z}
use Rattle.std.proofs.lemmas.List.{take_all}
use Rattle.chain.specs.declared.record.EdgeRecord.{EdgeRecord}
use Rattle.chain_file.specs.Columns.{column}
use Rattle.chain_file.proofs.Fills.{column_take_more}
use Rattle.chain_file.proofs.sums.column.Goals as goal

pub loop-edge-preserved : goal.loop-edge-preserved
loop-edge-preserved c =
    let d : EdgeRecord = record { successor = 0; coefficients = [] } in
    let x : ℤ = get_or (get_or c.args.edges.now c.loop-edge.edge-index d).coefficients c.args.i (pos 0) in
    let fits : SFits w16 x = search rules in
    let same : c.from-sum.result ≡ x = c.from-sum.ensures ∙ to_z-of_z w16 x fits in
    let more = column_take_more c.args.i c.args.edges.now c.loop-edge.edge-index d (omega arith) in
    record {
      value = omega (arith, ints, more, same);
      low = omega (arith, ints, same);
      high = omega (arith, ints, same);
    }

pub returns : goal.returns
returns c =
    let es = c.args.edges.now in
    let i = c.loop-edge.invariant in
    let all : length es ≤ c.loop-edge.edge-index = omega arith in
    record {
      value = i.value ∙ ap (column c.args.i) (take_all c.loop-edge.edge-index es all);
      low = omega (arith, ints, i.low);
      high = omega (arith, ints, i.high);
    }
