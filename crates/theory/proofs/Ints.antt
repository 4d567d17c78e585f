-- ℤ as an ordered module over ℕ.
use Rattle.std.proofs.Common.{◌≡◌, ℕ, ◌+◌, ◌-◌, ◌*◌, ◌<◌, ◌≤◌, ℤ, pos, ◌+ℤ◌, ◌≤ℤ◌, ap, subst₂, add-le-add, mul_comm, mul-le-mul_left, mul-pos, arith}
use native.Mathlib.Nat.{le_of_mul-le-mul_left}
use borrow.Author.Differences.{up, down, ints, sum_is_lem, product_is, le_out}
use Rattle.theory.specs.Words.{◌·◌}

pub ·_add : (n : ℕ) (x y : ℤ) → n · (x +ℤ y) ≡ n · x +ℤ n · y
·_add n x y = omega (arith, ints, ap (λ z. n * z) (sum_is_lem x y))

pub ·-· : (m n : ℕ) (x : ℤ) → m · (n · x) ≡ (m * n) · x
·-· m n x = omega (arith, ints, ap (λ z. m * z) (product_is (pos n) x).0, ap (λ z. m * z) (product_is (pos n) x).1)

pub ·_swap : (m n : ℕ) (x : ℤ) → m · (n · x) ≡ n · (m · x)
·_swap m n x = simp (·-·, mul_comm)

pub one_· : (x : ℤ) → 1 · x ≡ x
one_· x = omega (arith, ints)

pub ·_mono : (n : ℕ) (x y : ℤ) → x ≤ℤ y → (n · x) ≤ℤ (n · y)
·_mono n x y h = omega (arith, ints, mul-le-mul_left n (le_out x y h))

pub +ℤ_swap : (x y z w : ℤ) → (x +ℤ y) +ℤ (z +ℤ w) ≡ (x +ℤ z) +ℤ (y +ℤ w)
+ℤ_swap x y z w = omega (arith, ints)

-- ---- a number between two points of a line
-- a / q is between l / G and h / G, with the weights α and β: what is in order at both ends is in order there
mixed : (G q a l h α β W X Y : ℕ) → G * (α + β) ≡ W * q → α * l + β * h ≡ W * a
    → α * (G * X + l * Y) + β * (G * X + h * Y) ≡ W * (q * X + a * Y)
mixed G q a l h α β W X Y x y = omega (arith, ap (λ n. n * X) x, ap (λ n. n * Y) y)

between : (G q a l h α β δ X Y X' Y' : ℕ) → α + G * a ≡ h * q → β + l * q ≡ G * a → δ + l ≡ h → 0 < G * δ
    → G * X + l * Y ≤ G * X' + l * Y' → G * X + h * Y ≤ G * X' + h * Y' → q * X + a * Y ≤ q * X' + a * Y'
between G q a l h α β δ X Y X' Y' eα eβ eδ z lo hi =
    let x : G * (α + β) ≡ G * δ * q = omega (arith, ap (λ n. G * n) eα, ap (λ n. G * n) eβ, ap (λ n. G * (n * q)) eδ) in
    let y : α * l + β * h ≡ G * δ * a = omega (arith, ap (λ n. n * l) eα, ap (λ n. n * h) eβ, ap (λ n. G * a * n) eδ) in
    let W = G * δ in
    le_of_mul-le-mul_left (subst₂ ◌≤◌ (mixed G q a l h α β W X Y x y) (mixed G q a l h α β W X' Y' x y)
    (add-le-add (mul-le-mul_left α lo) (mul-le-mul_left β hi))) z

-- the order of two integers, as naturals
out : (m n : ℕ) (x y x' y' : ℤ) → (m · x +ℤ n · y) ≤ℤ (m · x' +ℤ n · y')
    → m * (up x + down x') + n * (up y + down y') ≤ m * (up x' + down x) + n * (up y' + down y)
out m n x y x' y' h = omega (arith, ints)

back : (m n : ℕ) (x y x' y' : ℤ) → m * (up x + down x') + n * (up y + down y') ≤ m * (up x' + down x) + n * (up y' + down y)
    → (m · x +ℤ n · y) ≤ℤ (m · x' +ℤ n · y')
back m n x y x' y' h = omega (arith, ints)

pub between_ℤ : (G q a l h : ℕ) (x y x' y' : ℤ) → l < h → 0 < G → l * q ≤ G * a → G * a ≤ h * q
    → (G · x +ℤ l · y) ≤ℤ (G · x' +ℤ l · y') → (G · x +ℤ h · y) ≤ℤ (G · x' +ℤ h · y') → (q · x +ℤ a · y) ≤ℤ (q · x' +ℤ a · y')
between_ℤ G q a l h x y x' y' w g lo hi p r =
    back q a x y x' y' (between G q a l h (h * q - G * a) (G * a - l * q) (h - l) _ _ _ _
    (omega arith) (omega arith) (omega arith) (mul-pos g (omega arith)) (out G l x y x' y' p) (out G h x y x' y' r))
