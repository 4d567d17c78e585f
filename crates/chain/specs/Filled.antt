-- The record of a row: its numbers in front, and 0 behind them.
use Rattle.std.specs.Prelude.{ℕ, ◌-◌, List, ◌++◌, map, length, replicate, pos}
use Rattle.chain.specs.Chains.{Row, Edge}
use Rattle.chain.specs.declared.record.RowRecord.{RowRecord}
use Rattle.chain.specs.declared.record.EdgeRecord.{EdgeRecord}

-- a list brought to the length k by copies of d
abbrev pub padded : {A : Type 0} → ℕ → A → List A → List A
padded k d xs = xs ++ replicate (k - length xs) d

abbrev pub no_edge : EdgeRecord
no_edge = record { successor = 0; coefficients = replicate 8 (pos 0) }

abbrev pub filled_edge : Edge → EdgeRecord
filled_edge e = record { successor = e.successor; coefficients = padded 8 (pos 0) e.coefficients }

abbrev pub filled : Row → RowRecord
filled r = record {
  rate_count = length r.rates;
  rates = padded 3 0 r.rates;
  edge_count = length r.edges;
  edges = padded 8 no_edge (map filled_edge r.edges);
}
