-- The lowest number at which a test fails.
use Rattle.std.proofs.Common.{◌≡◌, ℕ, zero, suc, ◌+◌, ◌<◌, Bool, true, false, cond, Some, None, Decides, Option, sym, refl, ap, inl, inr, add-one, arith}
use Rattle.std.proofs.lemmas.Bool.{cases_eq}
use Rattle.theory.specs.Words.{or_else, lowest, is_none, passes}

-- no failure below n + 1
parts : (o : Option ℕ) (t : Bool) (n : ℕ) → or_else o (cond t None (Some n)) ≡ None → (o ≡ None) × (t ≡ true)
parts None true n e = (refl, refl)
parts None false n e = let z : ◌≡◌ {A = ℕ} 0 1 = cc in absurd (omega arith)
parts (Some s) t n e = let z : ◌≡◌ {A = ℕ} 0 1 = cc in absurd (omega arith)

pub lowest_more : (ok : ℕ → Bool) (n : ℕ) → lowest ok n ≡ None → ok n ≡ true → lowest ok (n + 1) ≡ None
lowest_more ok n e t = rw (add-one, e, t)

pub lowest-found : (ok : ℕ → Bool) (s n : ℕ) → lowest ok s ≡ None → ok s ≡ false → s < n → lowest ok n ≡ Some s
lowest-found ok s zero e f h = absurd (omega arith)
lowest-found ok s (suc n) e f h = elim (cases_eq s n) [
  | inl q ↦ rw (sym q, e, f)
  | inr q ↦ rw (lowest-found ok s n e f (omega arith))
]

pub lowest_none : (ok : ℕ → Bool) (n : ℕ) → lowest ok n ≡ None → (k : ℕ) → k < n → ok k ≡ true
lowest_none ok zero e k h = absurd (omega arith)
lowest_none ok (suc n) e k h = let p = parts (lowest ok n) (ok n) n e in elim (cases_eq k n) [
  | inl q ↦ rw q p.1
  | inr q ↦ lowest_none ok n p.0 k (omega arith)
]

pub none_lowest : (ok : ℕ → Bool) (n : ℕ) → ((k : ℕ) → k < n → ok k ≡ true) → lowest ok n ≡ None
none_lowest ok zero h = refl
none_lowest ok (suc n) h = rw (none_lowest ok n (λ k l. h k (omega arith)), h n (omega arith))

pub lowest_same : (ok ok' : ℕ → Bool) (n : ℕ) → ((k : ℕ) → k < n → ok k ≡ ok' k) → lowest ok n ≡ lowest ok' n
lowest_same ok ok' zero h = refl
lowest_same ok ok' (suc n) h = rw (lowest_same ok ok' n (λ k l. h k (omega arith)), h n (omega arith))

is_none_lem : (o : Option ℕ) → is_none o ≡ true → o ≡ None
is_none_lem None e = refl
is_none_lem (Some s) e = let z : ◌≡◌ {A = ℕ} 0 1 = cc in absurd (omega arith)

pub passes_decides : (ok : ℕ → Bool) (n : ℕ) → Decides (passes ok n) ((k : ℕ) → k < n → ok k ≡ true)
passes_decides ok n = (λ e. lowest_none ok n (is_none_lem (lowest ok n) e), λ h. ap is_none (none_lowest ok n h))
