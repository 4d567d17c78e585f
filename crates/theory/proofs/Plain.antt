-- The plain sum of an edge's chance is its value rate by rate.
use Rattle.std.proofs.Common.{◌≡◌, ℕ, zero, suc, ◌-◌, ◌*◌, ◌^◌, ◌≤◌, ℤ, ◌+ℤ◌, ◌∙◌, mul_assoc, mul_comm, one-mul, pow-suc, mul-one, mul_left_comm, arith}
use native.Mathlib.Nat.{pow-zero}
use lib.IntN.{+ℤ_idl, +ℤ_assoc, +ℤ_comm}
use borrow.Author.Differences.{ints}
use Rattle.theory.specs.Words.{◌·◌, sum_to}
use Rattle.theory.specs.Values.{eval, product, size, coef, named, of}
use Rattle.theory.specs.Theorems.{SumIsValue}
use Rattle.theory.proofs.Ints.{·_add, ·-·}

pow_1 : (q : ℕ) → q ^ 1 ≡ q
pow_1 q = pow-suc q 0 ∙ rw pow-zero (omega arith)

pow_2 : (q : ℕ) → q ^ 2 ≡ q * q
pow_2 q = pow-suc q 1 ∙ rw pow_1

pow_3 : (q : ℕ) → q ^ 3 ≡ q * (q * q)
pow_3 q = pow-suc q 2 ∙ rw pow_2 (mul_assoc q q q)

+ℤ_left_comm : (x y z : ℤ) → x +ℤ (y +ℤ z) ≡ y +ℤ (x +ℤ z)
+ℤ_left_comm x y z = omega (arith, ints)

ruleset ring = (·_add, ·-·, pow-zero, pow_1, pow_2, pow_3, one-mul, mul-one, mul_assoc, mul_left_comm, mul_comm, +ℤ_idl, +ℤ_assoc, +ℤ_left_comm, +ℤ_comm)

three : (q x y z : ℕ) (c : ℕ → ℤ)
    → (q ^ 3) · c 0 +ℤ (x * q ^ 2) · c 1 +ℤ (y * q ^ 2) · c 2 +ℤ (x * y * q ^ 1) · c 3
    +ℤ (z * q ^ 2) · c 4 +ℤ (x * z * q ^ 1) · c 5 +ℤ (y * z * q ^ 1) · c 6 +ℤ (x * y * z) · c 7
    ≡ 1 · (q · (q · (q · c 0 +ℤ z · c 4) +ℤ y · (q · c 2 +ℤ z · c 6)) +ℤ x · (q · (q · c 1 +ℤ z · c 5) +ℤ y · (q · c 3 +ℤ z · c 7)))
three q x y z c = simp ring

plain : (q : ℕ) (g : ℕ → ℕ) (c : ℕ → ℤ) (j : ℕ) → j ≤ 3 → sum_to (2 ^ j) (λ i. (product g j i * q ^ (3 - size j i)) · c i) ≡ q ^ (3 - j) · eval q g j c
plain q g c zero h = simp ring
plain q g c (suc zero) h = simp ring
plain q g c (suc (suc zero)) h = simp ring
plain q g c (suc (suc (suc zero))) h = simp (one-mul, mul-one, pow-zero, +ℤ_idl) (three q (g 0) (g 1) (g 2) c)
plain q g c (suc (suc (suc (suc j)))) h = absurd (omega arith)

pub sum-is-value : SumIsValue
sum-is-value a q r e h = plain q (of a r) (coef e) (named r) h
