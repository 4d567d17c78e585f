-- What a buffer holds while bytes are written to it one after another.
use Rattle.std.specs.Prelude.{◌≡◌, ℕ, ◌<◌, ◌≤◌, List, ◌++◌, length, drop, Result, MatchResult}
use Rattle.chain.specs.declared.refusal.Refusal.{Refusal}
use Rattle.chain.specs.declared.refusal.Refusal.TheVariants.{ShortBuffer}

-- The buffer held `base` and holds now the bytes xs and after them what it held.
abbrev pub Wrote : List ℕ → List ℕ → List ℕ → Type 0
Wrote base now xs = now ≡ xs ++ drop (length xs) base

-- What a call answers that writes the bytes xs to a buffer: their number, or a refusal of a buffer that is too short, which is left as it was.
abbrev pub Written : Result ℕ Refusal → List ℕ → List ℕ → List ℕ → Type 0
Written r before after xs =
    MatchResult r (λ n. (n ≡ length xs) × (length xs ≤ length before) × Wrote before after xs) (λ e. (e ≡ ShortBuffer) × (length before < length xs) × (after ≡ before))
