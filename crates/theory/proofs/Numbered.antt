-- The corners of a row by number: what holds at each number below 2 ^ named r holds at each corner.
use Rattle.std.proofs.Common.{◌≡◌, ℕ, zero, suc, ◌+◌, ◌-◌, ◌*◌, ◌/◌, ◌%◌, ◌^◌, ◌<◌, Bool, eqb, ◌⊎◌, Decides, sym, refl, ap, ◌∙◌, inl, inr, one-mul, pow-suc, arith, pow_pos, pow-add}
use native.Mathlib.Nat.{add-mul-div_right, add-mul-mod_self_right, div-eq_of_lt}
use Rattle.std.proofs.lemmas.Bool.{cases_eq, cond_both}
use Rattle.chain.specs.Chains.{Row}
use Rattle.theory.specs.Words.{passes}
use Rattle.theory.specs.Values.{bit, named, of}
use Rattle.theory.specs.Boxes.{Box, Corner, corner_of}
use Rattle.theory.proofs.Lowest.{passes_decides}

-- ---- bits
bit_same : (p d t : ℕ) → bit p (t + 2 ^ (d + suc p)) ≡ bit p t
bit_same p d t =
    let e : 2 ^ (d + suc p) ≡ (2 ^ d * 2) * 2 ^ p = pow-add 2 d (suc p) ∙ ap (λ z. 2 ^ d * z) (pow-suc 2 p) ∙ omega arith in
    ap (λ z. (t + z) / 2 ^ p % 2) e ∙ ap (λ z. z % 2) (add-mul-div_right t (2 ^ d * 2) (pow_pos p)) ∙ add-mul-mod_self_right (t / 2 ^ p) (2 ^ d) 2

bit_below : (p j t : ℕ) → p < j → bit p (t + 2 ^ j) ≡ bit p t
bit_below p j t h = let e : j ≡ (j - suc p) + suc p = omega arith in ap (λ z. bit p (t + 2 ^ z)) e ∙ bit_same p (j - suc p) t

bit_clear : (j t : ℕ) → t < 2 ^ j → bit j t ≡ 0
bit_clear j t h = ap (λ z. z % 2) (div-eq_of_lt h)

bit-set : (j t : ℕ) → t < 2 ^ j → bit j (t + 2 ^ j) ≡ 1
bit-set j t h = ap (λ z. (t + z) / 2 ^ j % 2) (sym (one-mul (2 ^ j))) ∙ ap (λ z. z % 2) (add-mul-div_right t 1 (pow_pos j) ∙ ap (λ z. z + 1) (div-eq_of_lt h))

-- ---- corners
module _ (b : Box) (r : Row) where
  -- a number whose corner is g at the first j rates
  abbrev Number : ℕ → (ℕ → ℕ) → Type 0
  Number j g = (t : ℕ) × (t < 2 ^ j) × ((p : ℕ) → p < j → corner_of b r t p ≡ g p)

  number_more : (j : ℕ) (g : ℕ → ℕ) → Number j g → (g j ≡ of b.low r j) ⊎ (g j ≡ of b.high r j) → Number (suc j) g
  number_more j g (t, l, h) (inl e) =
      (t, omega (arith, pow-suc 2 j), λ p k. elim (cases_eq p j) [ inl q ↦ rw (q, bit_clear j t l) (sym e) | inr q ↦ h p (omega arith) ])
  number_more j g (t, l, h) (inr e) =
      (t + 2 ^ j, omega (arith, pow-suc 2 j), λ p k. elim (cases_eq p j) [ inl q ↦ rw (q, bit-set j t l) (sym e) | inr q ↦ rw (bit_below p j t (omega arith)) (h p (omega arith)) ])

  number : (j : ℕ) (g : ℕ → ℕ) → ((p : ℕ) → p < j → (g p ≡ of b.low r p) ⊎ (g p ≡ of b.high r p)) → Number j g
  number zero g c = (0, omega arith, λ p l. absurd (omega arith))
  number (suc j) g c = number_more j g (number j g (λ p l. c p (omega arith))) (c j (omega arith))

  numbered : (t : ℕ) → Corner b r (corner_of b r t)
  numbered t p h = cond_both (eqb (bit p t) 1) (of b.high r p) (of b.low r p) (λ z. (z ≡ of b.low r p) ⊎ (z ≡ of b.high r p)) (λ _. inr refl) (λ _. inl refl)

  -- a test at each number decides a fact at each corner, where the fact depends on the row's rates alone
  pub at_corners : (ok : (ℕ → ℕ) → Bool) (P : (ℕ → ℕ) → Type 0) → ((g : ℕ → ℕ) → Decides (ok g) (P g))
      → ((g g' : ℕ → ℕ) → ((p : ℕ) → p < named r → g p ≡ g' p) → P g → P g')
      → Decides (passes (λ t. ok (corner_of b r t)) (2 ^ named r)) ((g : ℕ → ℕ) → Corner b r g → P g)
  at_corners ok P d same = let q = passes_decides (λ t. ok (corner_of b r t)) (2 ^ named r) in (
    λ e g c. let (t, l, h) = number (named r) g c in same _ g h ((d _).0 (q.0 e t l)),
    λ h. q.1 (λ t l. (d _).1 (h _ (numbered t))),
  )
