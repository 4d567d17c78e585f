-- Signed numbers of a width as the code computes them.
use Rattle.std.proofs.Common.{◌≡◌, ℕ, zero, suc, ◌+◌, ◌*◌, ◌^◌, ◌<◌, ◌≤◌, ℤ, pos, negsuc, ◌+ℤ◌, ◌*ℤ◌, neg_ℤ, nat_abs, refl, mul-le-mul, arith, SFits, to_z, of_z}
use lib.IntN.{sub_ℕ}
use mir.Val.{hbits}
use mir.Syntax.{Width}
use Rattle.std.proofs.lemmas.Int.{to_z-of_z, to_z_pos, ints}
use Rattle.theory.specs.Words.{◌·◌}

nat_abs_neg : (k : ℕ) → nat_abs (neg_ℤ (pos k)) ≡ k
nat_abs_neg zero = refl
nat_abs_neg (suc k) = refl

nat_abs_sub : (a b : ℕ) → nat_abs (sub_ℕ a b) ≤ a + b
nat_abs_sub a b = grind (arith, ints)

pub nat_abs_mul : (n : ℕ) (z : ℤ) → nat_abs (n · z) ≡ n * nat_abs z
nat_abs_mul n (pos k) = refl
nat_abs_mul n (negsuc k) = nat_abs_neg (n * suc k)

pub nat_abs_add : (a b : ℤ) → nat_abs (a +ℤ b) ≤ nat_abs a + nat_abs b
nat_abs_add (pos a) (pos b) = omega arith
nat_abs_add (pos a) (negsuc b) = nat_abs_sub a (suc b)
nat_abs_add (negsuc a) (pos b) = omega (arith, nat_abs_sub b (suc a))
nat_abs_add (negsuc a) (negsuc b) = omega arith

pub times_small : (n m b : ℕ) (x : ℤ) → n ≤ m → nat_abs x ≤ b → nat_abs (n · x) ≤ m * b
times_small n m b x h k = omega (arith, nat_abs_mul n x, mul-le-mul h k)

pub fits : (w : Width) (z : ℤ) → nat_abs z < 2 ^ hbits w → SFits w z
fits w (pos n) h = record { sfits = h }
fits w (negsuc n) h = record { sfits = omega arith }

module _ (w : Width) where
  -- a product of an unsigned and a signed number
  pub product_fits : (n : ℕ) (z : ℤ) → n < 2 ^ hbits w → SFits w z → nat_abs (n · z) < 2 ^ hbits w
      → SFits w (to_z w n *ℤ to_z w (of_z w z))
  product_fits n z h f b = rw (to_z_pos w n h, to_z-of_z w z f) (fits w (n · z) b)

  pub product_is : (n : ℕ) (z : ℤ) → n < 2 ^ hbits w → SFits w z → nat_abs (n · z) < 2 ^ hbits w
      → to_z w (of_z w (to_z w n *ℤ to_z w (of_z w z))) ≡ n · z
  product_is n z h f b = rw (to_z_pos w n h, to_z-of_z w z f) (to_z-of_z w (n · z) (fits w (n · z) b))

  -- a running sum, whose bits stand for s
  pub onto-is : (n : ℕ) (s x : ℤ) → to_z w n ≡ s → SFits w x → nat_abs s + nat_abs x < 2 ^ hbits w
      → to_z w (of_z w (to_z w n +ℤ to_z w (of_z w x))) ≡ s +ℤ x
  onto-is n s x e f b = rw (e, to_z-of_z w x f) (to_z-of_z w (s +ℤ x) (fits w (s +ℤ x) (omega (arith, nat_abs_add s x))))
