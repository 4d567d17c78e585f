use Rattle.std.proofs.Common.{◌≡◌, ◌*◌, take, pos, neg_ℤ, ◌≤ℤ◌}
use Rattle.chain_file.specs.Columns.{column}
use Rattle.chain_file.proofs.sums.column.Given as goal

abbrev pub invariant-loop-edge : goal.invariant-loop-edge
invariant-loop-edge l = record {
  value : l.sum ≡ column l.i (take l.edge-index l.edges);
  low : neg_ℤ (pos (32768 * l.edge-index)) ≤ℤ l.sum;
  high : l.sum ≤ℤ pos (32768 * l.edge-index);
}
