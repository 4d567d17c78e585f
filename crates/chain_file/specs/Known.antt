-- The lengths of the bodies and the numbers of a chain, as the format has them.
use Rattle.std.specs.Prelude.{ℕ, List, [], ◌∷◌}
use Rattle.chain_format.specs.Format.{Numbers}
use Rattle.chain_file.specs.declared.contents.Lengths.{Lengths}
use Rattle.chain_file.specs.declared.numbers.Numbers.{Numbers as Known}

abbrev pub lengths_of : Lengths → List ℕ
lengths_of l = l.numbers ∷ l.marks ∷ l.offsets ∷ l.rows ∷ []

abbrev pub numbers_of : Known → Numbers
numbers_of n = record { states = n.states; rates = n.rates; unit = n.unit; start = n.start }
