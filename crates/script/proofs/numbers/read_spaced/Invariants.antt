use Rattle.std.proofs.Common.{◌≡◌, ℕ, List, ◌++◌, length, vec_items}
use Rattle.std.specs.List.{slice_split}
use Rattle.script.proofs.Digits.{space, Reached}
use Rattle.script.proofs.numbers.read_spaced.Given as goal

-- the numbers of the texts so far are added
abbrev pub invariant-loop-digits : goal.invariant-loop-digits
invariant-loop-digits l = (ns : List ℕ) × (vec_items l.numbers ≡ vec_items l.initial.numbers ++ ns) × Reached (slice_split space l.text) ns (length l.yielded)
