-- The lowest number at which a test fails, from what a search has found.
use Rattle.std.proofs.Common.{◌≡◌, ℕ, ◌<◌, ◌≤◌, Bool, true, false, not, Some, None, MatchOption, Option, is_some, sym, zero-le, refl, arith}
use Rattle.theory.specs.Words.{lowest, is_none}
use Rattle.theory.proofs.Lowest.{lowest-found, none_lowest}

pub found_lowest : (ok : ℕ → Bool) (n : ℕ) (r : Option ℕ)
    → MatchOption r ((k : ℕ) → 0 ≤ k → k < n → k < n → ok k ≡ true) (λ i. (0 ≤ i) × (i < n) × (i < n → ok i ≡ false) × ((k : ℕ) → 0 ≤ k → k < i → k < n → ok k ≡ true))
    → r ≡ lowest ok n
found_lowest ok n None h = sym (none_lowest ok n (λ k l. h k zero-le l l))
found_lowest ok n (Some i) h = sym (lowest-found ok i n (none_lowest ok i (λ k l. h.3 k zero-le l (omega arith))) (h.2 h.1) h.1)

pub none-told : (o : Option ℕ) (b : Bool) → is_some o ≡ not b → b ≡ is_none o
none-told None true e = refl
none-told None false e = e
none-told (Some s) true e = e
none-told (Some s) false e = refl
