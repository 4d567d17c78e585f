-- Three small chains, each with the unit 1 and the start 0.
use Rattle.std.specs.Prelude.{ℕ, cond, [], ◌∷◌, ℤ, pos, negsuc, ◌==◌}
use Rattle.chain.specs.Chains.{Meaning, Row, Edge, looping}
use Rattle.chain.specs.Filled.{padded, no_edge}
use Rattle.chain.specs.declared.record.EdgeRecord.{EdgeRecord}
use Rattle.chain.specs.declared.record.RowRecord.{RowRecord}
use Rattle.worked.specs.declared.samples.Sample.{Sample}
use Rattle.worked.specs.declared.samples.Sample.TheVariants.{Relay, Single, Doubled}

-- an edge with the coefficients of 1 and of the row's only rate
abbrev pub edge : ℕ → ℤ → ℤ → Edge
edge s one rate = record { successor = s; coefficients = one ∷ rate ∷ [] }

-- a row that names one rate and has two edges
abbrev pub fork : ℕ → Edge → Edge → Row
fork rate e f = record { rates = rate ∷ []; edges = e ∷ f ∷ [] }

-- the record of such a row, by its rate and the records of its edges
abbrev pub forked : ℕ → EdgeRecord → EdgeRecord → RowRecord
forked rate e f = record {
  rate_count = 1;
  rates = padded 3 0 (rate ∷ []);
  edge_count = 2;
  edges = padded 8 no_edge (e ∷ f ∷ []);
}

-- ---- relay
-- two jobs in turn: the first hands on to the second with rate 0, else all is well for good; the second hands back with rate 1, else it fails for good
abbrev pub relay_row : ℕ → Row
relay_row s = cond (s == 0) (fork 0 (edge 1 (pos 0) (pos 1)) (edge 3 (pos 1) (negsuc 0)))
    (cond (s == 1) (fork 1 (edge 0 (pos 0) (pos 1)) (edge 2 (pos 1) (negsuc 0)))
    (looping 1 s))

abbrev pub relay : Meaning
relay = record { states = 4; rates = 2; unit = 1; start = 0; mark = λ s. cond (s == 2) 1 0; row = relay_row }

-- ---- single
-- one state that is not bad and that no step leaves
abbrev pub single : Meaning
single = record { states = 1; rates = 1; unit = 1; start = 0; mark = λ s. 0; row = looping 1 }

-- ---- doubled
-- state 0 is left with twice the rate, which is a chance only where the rate is at most a half; no state is bad
abbrev pub doubled_row : ℕ → Row
doubled_row s = cond (s == 0) (fork 0 (edge 0 (pos 1) (negsuc 1)) (edge 1 (pos 0) (pos 2))) (looping 1 s)

abbrev pub doubled : Meaning
doubled = record { states = 2; rates = 1; unit = 1; start = 0; mark = λ s. 0; row = doubled_row }

-- ---- which chain a sample is
abbrev pub meaning_of : Sample → Meaning
meaning_of Relay = relay
meaning_of Single = single
meaning_of Doubled = doubled
