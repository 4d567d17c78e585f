-- The evaluation of a table: it is linear, and between the corners of a box it keeps an order.
use Rattle.std.proofs.Common.{◌≡◌, ℕ, zero, suc, ◌+◌, ◌*◌, ◌^◌, ◌<◌, ◌≤◌, cond, eqb, ◌⊎◌, ℤ, pos, ◌+ℤ◌, ◌≤ℤ◌, sym, refl, ap, ◌∙◌, subst₂, inl, inr, mul_assoc, mul_comm, pow-suc, mul_left_comm, arith, pow_pos}
use mathlib.Core.Path.{fun_ext}
use native.Mathlib.Nat.{pow-zero}
use borrow.Author.Differences.{ints}
use Rattle.std.proofs.lemmas.Bool.{ne_eqb}
use Rattle.std.proofs.lemmas.Bool.Decides.{nat_tests, eqb_tells}
use Rattle.chain.specs.Chains.{due}
use Rattle.theory.specs.Words.{◌·◌}
use Rattle.theory.specs.Values.{eval}
use Rattle.theory.proofs.Ints.{·_add, ·-·, +ℤ_swap, between_ℤ}

module _ (D : ℕ) (g : ℕ → ℕ) where
  pub eval_add : (j : ℕ) (T U : ℕ → ℤ) → eval D g j (λ i. T i +ℤ U i) ≡ eval D g j T +ℤ eval D g j U
  eval_add zero T U = refl
  eval_add (suc j) T U = ap (eval D g j) (fun_ext λ i. simp (·_add, +ℤ_swap)) ∙ eval_add j _ _

  pub eval-· : (j m : ℕ) (T : ℕ → ℤ) → eval D g j (λ i. m · T i) ≡ m · eval D g j T
  eval-· zero m T = refl
  eval-· (suc j) m T = ap (eval D g j) (fun_ext λ i. simp (·_add, ·-·, mul_comm)) ∙ eval-· j m _

  pub eval_mix : (j m n : ℕ) (T U : ℕ → ℤ) → eval D g j (λ i. m · T i +ℤ n · U i) ≡ m · eval D g j T +ℤ n · eval D g j U
  eval_mix j m n T U = eval_add j (λ i. m · T i) (λ i. n · U i) ∙ (λ t. eval-· j m T t +ℤ eval-· j n U t)

  -- only the first 2 ^ j entries count
  pub eval_same : (j : ℕ) (T U : ℕ → ℤ) → ((i : ℕ) → i < 2 ^ j → T i ≡ U i) → eval D g j T ≡ eval D g j U
  eval_same zero T U h = h 0 (omega arith)
  eval_same (suc j) T U h = eval_same j _ _ λ i k. cc (h i (omega (arith, pow-suc 2 j)), h (i + 2 ^ j) (omega (arith, pow-suc 2 j)))

  -- what a row's coefficients have to add up to is the table of a constant
  due_step : (K j i : ℕ) → D · due K i +ℤ g j · due K (i + 2 ^ j) ≡ due (K * D) i
  due_step K j i = rw (ne_eqb (i + 2 ^ j) 0 (λ e. omega (arith, pow_pos j)))
      (elim (eqb_tells i 0) [ inl t ↦ rw t.0 (omega (arith, ints)) | inr t ↦ rw t.0 (omega (arith, ints)) ])

  pub eval-due : (j K : ℕ) → eval D g j (due K) ≡ pos (K * D ^ j)
  eval-due zero K = ap pos (rw pow-zero (omega arith))
  eval-due (suc j) K = ap (eval D g j) (fun_ext (due_step K j)) ∙ eval-due j (K * D) ∙ ap pos (simp (pow-suc, mul_assoc, mul_comm, mul_left_comm))

-- only the first j numerators count
pub eval-at : (D : ℕ) (g g' : ℕ → ℕ) (j : ℕ) (T : ℕ → ℤ) → ((p : ℕ) → p < j → g p ≡ g' p) → eval D g j T ≡ eval D g' j T
eval-at D g g' zero T h = refl
eval-at D g g' (suc j) T h = ap (λ n. eval D g j (λ i. D · T i +ℤ n · T (i + 2 ^ j))) (h j (omega arith)) ∙ eval-at D g g' j _ (λ p k. h p (omega arith))

-- ---- the corner lemma
-- the upper half of a table of 2 ^ (j + 1) entries
abbrev upper : ℕ → (ℕ → ℤ) → ℕ → ℤ
upper j T i = T (i + 2 ^ j)

-- g with x at place j
abbrev with : (ℕ → ℕ) → ℕ → ℕ → ℕ → ℕ
with g j x p = cond (eqb p j) x (g p)

with_here : (g : ℕ → ℕ) (j x : ℕ) → with g j x j ≡ x
with_here g j x = grind (arith, nat_tests)

with_there : (g : ℕ → ℕ) (j x p : ℕ) → p < j → with g j x p ≡ g p
with_there g j x p h = grind (arith, nat_tests)

eval-with : (D j x : ℕ) (g : ℕ → ℕ) (T : ℕ → ℤ) → eval D (with g j x) (suc j) T ≡ D · eval D g j T +ℤ x · eval D g j (upper j T)
eval-with D j x g T = ap (λ n. eval D (with g j x) j (λ i. D · T i +ℤ n · upper j T i)) (with_here g j x)
    ∙ eval-at D (with g j x) g j _ (with_there g j x) ∙ eval_mix D g j D x T (upper j T)

module _ (G q : ℕ) (low high a : ℕ → ℕ) (positive : 0 < G) where
  -- g is at each place below j low or high; a, over q, is between these, over G
  abbrev Picked : ℕ → (ℕ → ℕ) → Type 0
  Picked j g = (p : ℕ) → p < j → (g p ≡ low p) ⊎ (g p ≡ high p)

  abbrev Between : ℕ → Type 0
  Between j = (p : ℕ) → p < j → (low p < high p) × (low p * q ≤ G * a p) × (G * a p ≤ high p * q)

  picked_with : (j x : ℕ) (g : ℕ → ℕ) → Picked j g → (x ≡ low j) ⊎ (x ≡ high j) → Picked (suc j) (with g j x)
  picked_with j x g c e p l = elim (eqb_tells p j) [ inl t ↦ rw t.0 (rw t.1 e) | inr t ↦ rw t.0 (c p (omega arith)) ]

  -- the last rate goes to its place first, between its two ends, and the others follow
  pub corners : (j : ℕ) (T U : ℕ → ℤ) → ((g : ℕ → ℕ) → Picked j g → eval G g j T ≤ℤ eval G g j U) → Between j → eval q a j T ≤ℤ eval q a j U
  corners zero T U h k = h a (λ p l. absurd (omega arith))
  corners (suc j) T U h k = corners j _ _ (λ g c. subst₂ ◌≤ℤ◌ (sym (eval_mix G g j q (a j) T _)) (sym (eval_mix G g j q (a j) U _))
      (let (wide, lo, hi) = k j (omega arith) in
      between_ℤ G q (a j) (low j) (high j) (eval G g j T) (eval G g j (upper j T)) (eval G g j U) (eval G g j (upper j U)) wide positive lo hi
      (end g c (low j) (inl refl)) (end g c (high j) (inr refl)))) (λ p l. k p (omega arith))
    where
      end : (g : ℕ → ℕ) → Picked j g → (x : ℕ) → (x ≡ low j) ⊎ (x ≡ high j)
          → (G · eval G g j T +ℤ x · eval G g j (upper j T)) ≤ℤ (G · eval G g j U +ℤ x · eval G g j (upper j U))
      end g c x e = subst₂ ◌≤ℤ◌ (eval-with G j x g T) (eval-with G j x g U) (h (with g j x) (picked_with j x g c e))
