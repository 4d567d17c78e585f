-- What is left where bytes were put, and what a call answers that writes them all.
use Rattle.std.specs.Prelude.{◌≡◌, ℕ, ◌+◌, ◌-◌, ◌<◌, ◌≤◌, min, List, ◌++◌, length, take, drop, Result, MatchResult}
use Rattle.sink.specs.declared.ShortBuffer.{ShortBuffer}

-- the place after n more bytes, but never past the end
abbrev pub onward : ℕ → ℕ → ℕ → ℕ
onward end at n = at + min (end - at) n

-- The bytes xs stand at a place, as far as the buffer goes; the others are as before, and `next` is the place after them.
pub record Pasted (before after : List ℕ) (at next : ℕ) (xs : List ℕ) : Type 0 where
  pub place : next ≡ onward (length before) at (length xs)
  pub bytes : after ≡ take at before ++ (take (next - at) xs ++ drop next before)

-- What a call answers that writes the bytes xs to the start of a buffer: their number, or that it is too short, and then it is as it was.
abbrev pub WritesAll : Result ℕ ShortBuffer → List ℕ → List ℕ → List ℕ → Type 0
WritesAll r before after xs =
    MatchResult r (λ n. (n ≡ length xs) × (length xs ≤ length before) × (after ≡ xs ++ drop (length xs) before)) (λ _. (length before < length xs) × (after ≡ before))
