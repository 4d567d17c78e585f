-- Sums, and the lowest number at which a test fails.
use Rattle.std.specs.Prelude.{ℕ, zero, suc, Bool, true, false, cond, ◌&&◌, List, [], ◌∷◌, ℤ, pos, ◌+ℤ◌, ◌*ℤ◌, Some, None, Option}

-- a whole number, n times
infixl 7 ◌·◌
abbrev pub ◌·◌ : ℕ → ℤ → ℤ
n · z = pos n *ℤ z

abbrev pub sumℤ : {X : Type 0} → (X → ℤ) → List X → ℤ
sumℤ f [] = pos 0
sumℤ f (x ∷ xs) = f x +ℤ sumℤ f xs

-- f 0 + .. + f (n - 1)
abbrev pub sum_to : ℕ → (ℕ → ℤ) → ℤ
sum_to zero f = pos 0
sum_to (suc n) f = sum_to n f +ℤ f n

abbrev pub every : {X : Type 0} → (X → Bool) → List X → Bool
every ok [] = true
every ok (x ∷ xs) = ok x && every ok xs

-- the first of two, or the second where there is none
abbrev pub or_else : Option ℕ → Option ℕ → Option ℕ
or_else (Some s) other = Some s
or_else None other = other

-- the lowest number below n at which a test fails
abbrev pub lowest : (ℕ → Bool) → ℕ → Option ℕ
lowest ok zero = None
lowest ok (suc n) = or_else (lowest ok n) (cond (ok n) None (Some n))

abbrev pub is_none : Option ℕ → Bool
is_none None = true
is_none (Some s) = false

-- whether a test passes at every number below n
abbrev pub passes : (ℕ → Bool) → ℕ → Bool
passes ok n = is_none (lowest ok n)
