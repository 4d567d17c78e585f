-- A test that is passed as a closure: what its calls ask and answer, at each number below n.
use Rattle.std.specs.Prelude.{◌≡◌, ℕ, ◌<◌, Bool}

-- the test may be asked
abbrev pub TakesBelow : (ℕ → Type 0) → ℕ → Type 0
TakesBelow pre n = (k : ℕ) → k < n → pre k

-- the test answers as ok does
abbrev pub AnswersBelow : (ℕ → Bool → Type 0) → ℕ → (ℕ → Bool) → Type 0
AnswersBelow post n ok = (k : ℕ) (r : Bool) → k < n → post k r → r ≡ ok k
