-- A row as its record has it.
use Rattle.std.specs.Prelude.{◌≡◌, ℕ, ◌-◌, ◌*◌, ◌^◌, ◌<◌, ◌≤◌, List, [], map, length, get_or, take, ℤ, pos, slice_index, slice_index_or, unsigned_abs}
use Rattle.chain.specs.Chains.{Row, Edge}
use Rattle.chain.specs.declared.record.RowRecord.{RowRecord}
use Rattle.chain.specs.declared.record.EdgeRecord.{EdgeRecord}

-- the entry number i of a table
abbrev pub entry : List ℤ → ℕ → ℤ
entry xs i = slice_index_or xs i (pos 0)

-- every entry of a table keeps to a bound
abbrev pub Small : ℕ → List ℤ → Type 0
Small bound xs = (i : ℕ) → unsigned_abs (entry xs i) ≤ bound

-- the bound of a table with j rates left to be set
abbrev pub room : ℕ → ℕ
room j = 8000 * 2000 ^ (3 - j)

abbrev pub edge_of : ℕ → EdgeRecord → Edge
edge_of named e = record { successor = e.successor; coefficients = take (2 ^ named) e.coefficients }

abbrev pub row_of : RowRecord → Row
row_of r = record {
  rates = take r.rate_count r.rates;
  edges = map (edge_of r.rate_count) (take r.edge_count r.edges);
}

-- what is read past the last edge
abbrev pub blank : EdgeRecord
blank = record { successor = 0; coefficients = [] }

-- a record that holds the row of a lawful chain of so many rates
pub record Readable (rates : ℕ) (r : RowRecord) : Type 0 where
  pub rates_long : length r.rates ≡ 3
  pub edges_long : length r.edges ≡ 8
  pub rates_few : r.rate_count ≤ 3
  pub edges_few : r.edge_count ≤ 8
  pub known : (p : ℕ) → slice_index r.rates p < rates
  pub small : (i : ℕ) → Small 8000 (get_or r.edges i blank).coefficients
