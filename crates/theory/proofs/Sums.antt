-- Sums of naturals over a list.
use Rattle.std.proofs.Common.{◌≡◌, ℕ, ◌+◌, ◌*◌, ◌≤◌, List, [], ◌∷◌, ℤ, pos, ◌+ℤ◌, refl, le_refl, add-le-add, arith}
use Rattle.std.specs.List.{AllByRecursion}
use Rattle.theory.specs.Words.{sumℤ}

abbrev pub sum_n : {X : Type 0} → (X → ℕ) → List X → ℕ
sum_n f [] = 0
sum_n f (x ∷ xs) = f x + sum_n f xs

module _ {X : Type 0} where
  pub sum_mono : (P : X → Type 0) (f g : X → ℕ) → ((x : X) → P x → f x ≤ g x) → (xs : List X) → AllByRecursion P xs → sum_n f xs ≤ sum_n g xs
  sum_mono P f g h [] t = le_refl 0
  sum_mono P f g h (x ∷ xs) t = add-le-add (h x t.0) (sum_mono P f g h xs t.1)

  pub sum_times : (m : ℕ) (f w : X → ℕ) (xs : List X) → sum_n (λ x. m * f x * w x) xs ≡ m * sum_n (λ x. f x * w x) xs
  sum_times m f w [] = omega arith
  sum_times m f w (x ∷ xs) = omega (arith, sum_times m f w xs)

  pub sum_plus : (f g w : X → ℕ) (xs : List X) → sum_n (λ x. (f x + g x) * w x) xs ≡ sum_n (λ x. f x * w x) xs + sum_n (λ x. g x * w x) xs
  sum_plus f g w [] = omega arith
  sum_plus f g w (x ∷ xs) = omega (arith, sum_plus f g w xs)

  -- a sum of integers that are naturals
  pub sum_pos : (P : X → Type 0) (f : X → ℤ) (g : X → ℕ) → ((x : X) → P x → f x ≡ pos (g x)) → (xs : List X) → AllByRecursion P xs → sumℤ f xs ≡ pos (sum_n g xs)
  sum_pos P f g h [] t = refl
  sum_pos P f g h (x ∷ xs) t = λ i. h x t.0 i +ℤ sum_pos P f g h xs t.1 i
