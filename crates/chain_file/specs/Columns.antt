-- The sums of a row's coefficients, over the edges of its record.
use Rattle.std.specs.Prelude.{ℕ, Bool, List, [], ◌∷◌, ℤ, pos, ◌+ℤ◌, slice_index_or}
use Rattle.std.specs.List.{list_all, range_with_len}
use Rattle.chain.specs.Chains.{due}
use Rattle.chain.specs.declared.record.EdgeRecord.{EdgeRecord}
use Rattle.chain_format.specs.Format.{eqℤ}

-- the sum of the coefficients number i
abbrev pub column : ℕ → List EdgeRecord → ℤ
column i [] = pos 0
column i (e ∷ es) = slice_index_or e.coefficients i (pos 0) +ℤ column i es

-- whether the sums number 0 to k - 1 are what they have to be
abbrev pub tallied : ℕ → List EdgeRecord → ℕ → Bool
tallied unit es k = list_all (λ i. eqℤ (column i es) (due unit i)) (range_with_len 0 k)
