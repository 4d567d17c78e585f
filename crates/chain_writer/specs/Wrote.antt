-- What a buffer holds once bytes are written to its start, and the bytes of a record.
use Rattle.std.specs.Prelude.{◌≡◌, ℕ, ◌+◌, ◌*◌, ◌^◌, List, ◌++◌, length, take, drop}
use Rattle.chain.specs.Chains.{Meaning}
use Rattle.chain.specs.declared.record.RowRecord.{RowRecord}
use Rattle.chain.specs.declared.record.EdgeRecord.{EdgeRecord}
use Rattle.chain_format.specs.Reader.{bytes_of, spell, each, stay}
use Rattle.chain_format.specs.Format.{Version, coefficient_bytes, Opens, chain_in}
use Rattle.chain_format.specs.Same.{Same}

-- the bytes xs, and after them what the buffer held before
abbrev pub Wrote : List ℕ → List ℕ → List ℕ → Type 0
Wrote before after xs = after ≡ xs ++ drop (length xs) before

-- the bytes open, and the chain that they open as is the same
abbrev pub ReadsAs : List ℕ → Meaning → Type 0
ReadsAs bs c = Opens bs × Same (chain_in bs) c

-- the bytes of an edge in a record, and of the row in a record
abbrev pub edge_record_bytes : Version → ℕ → EdgeRecord → List ℕ
edge_record_bytes v size e = bytes_of v.wide e.successor ++ spell (each coefficient_bytes) stay 0 (take size e.coefficients)

abbrev pub record_bytes : Version → RowRecord → List ℕ
record_bytes v r =
    (bytes_of 1 r.rate_count ++ take r.rate_count r.rates)
    ++ (bytes_of 1 r.edge_count ++ spell (each (edge_record_bytes v (2 ^ r.rate_count))) stay 0 (take r.edge_count r.edges))

-- how many those are
abbrev pub record_length : Version → RowRecord → ℕ
record_length v r = 2 + r.rate_count + (v.wide + 2 * 2 ^ r.rate_count) * r.edge_count
