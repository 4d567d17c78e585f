-- What a witness shows: its chances are naturals, so the chain walks in naturals.
use Rattle.std.proofs.Common.{◌≡◌, ℕ, zero, suc, ◌+◌, ◌*◌, ◌^◌, ◌<◌, ◌≤◌, Bool, true, false, cond, List, ℤ, pos, ◌*ℤ◌, nat_abs, sym, refl, ap, ◌∙◌, mul-le-mul_right, mul_comm, mul-pos, arith}
use native.Mathlib.Nat.{one-le-pow}
use lib.Signed.{yes_non_neg, pos-nat_abs}
use borrow.Author.Differences.{ints, at_most_in, below_in}
use Rattle.std.specs.List.{ContainsAt}
use Rattle.std.proofs.ByRecursion.{all-has, all_has_itself}
use Rattle.std.proofs.lemmas.Bool.{not_from_false}
use Rattle.chain.specs.Chains.{Edge, Meaning, Lawful, bad}
use Rattle.theory.specs.Words.{◌·◌, sumℤ}
use Rattle.theory.specs.Values.{exact}
use Rattle.theory.specs.Boxes.{Box, Proper, Setting, Inside}
use Rattle.theory.specs.Chance.{million, whole, reach, KeepsTo, Exceeds}
use Rattle.theory.specs.Witness.{Said, InOrder, Possible, Chances, SafeWitness, UnsafeWitness, at, at_most, at_least, steps, step_number}
use Rattle.theory.specs.Theorems.{SafeIsSafe, UnsafeIsUnsafe}
use Rattle.theory.proofs.Laws.{successors}
use Rattle.theory.proofs.Rows.{claim, chance, whole_row}
use Rattle.theory.proofs.Claims.{Claimed, tested, at_most_lem, at_least_lem, in_steps}
use Rattle.theory.proofs.Sums.{sum_n, sum_mono, sum_times, sum_plus, sum_pos}
use Rattle.theory.proofs.Walk.{hits_of, safe, unsafe}

cond_pos : (t : Bool) (x y : ℕ) (z : ℤ) → z ≡ pos y → cond t (pos x) z ≡ pos (cond t x y)
cond_pos true x y z e = refl
cond_pos false x y z e = e

module _ (c : Meaning) (G : ℕ) (b : Box) (x : Setting) (lawful : Lawful c) (proper : Proper c.rates G b)
    (inside : Inside c.rates G b x) (chances : Chances c G b) where
  abbrev n : ℕ
  n = c.states

  abbrev M : ℕ
  M = whole c x

  abbrev edges : ℕ → List Edge
  edges s = (c.row s).edges

  abbrev chance-of : ℕ → Edge → ℤ
  chance-of s e = exact x.numerator x.denominator (c.row s) e

  abbrev weight : ℕ → Edge → ℕ
  weight s e = nat_abs (chance-of s e)

  abbrev step : (ℕ → ℕ) → ℕ → ℕ
  step f s = sum_n (λ e. f e.successor * weight s e) (edges s)

  chance_is : (s : ℕ) → s < n → (e : Edge) → ContainsAt (edges s) e → chance-of s e ≡ pos (weight s e)
  chance_is s h e m = sym (pos-nat_abs _ (yes_non_neg (chance x (lawful.rows s h) proper inside e
      (λ g i. all-has (Possible G g (c.row s)) (edges s) e (chances s h g i) m))))

  next : (s : ℕ) → s < n → (e : Edge) → ContainsAt (edges s) e → e.successor < n
  next s h e m = all-has (λ e. e.successor < n) (edges s) e (successors (lawful.rows s h)) m

  sum_is : (s : ℕ) → (f : Edge → ℤ) (g : Edge → ℕ) → ((e : Edge) → ContainsAt (edges s) e → f e ≡ pos (g e)) → sumℤ f (edges s) ≡ pos (sum_n g (edges s))
  sum_is s f g h = sum_pos (ContainsAt (edges s)) f g h (edges s) (all_has_itself (edges s))

  mean-is : (s : ℕ) → s < n → (f : ℕ → ℕ) → sumℤ (λ e. f e.successor · chance-of s e) (edges s) ≡ pos (step f s)
  mean-is s h f = sum_is s _ (λ e. f e.successor * weight s e) (λ e m. ap (λ z. f e.successor · z) (chance_is s h e m))

  reach-is : (k s : ℕ) → s < n → reach c x k s ≡ pos (hits_of M (bad c) step k s)
  reach-is zero s h = cond_pos (bad c s) 1 0 (pos 0) refl
  reach-is (suc k) s h = cond_pos (bad c s) (M ^ suc k) (step (hits_of M (bad c) step k) s) _
      (sum_is s _ (λ e. hits_of M (bad c) step k e.successor * weight s e)
      (λ e m. (λ i. chance_is s h e m i *ℤ reach-is k e.successor (next s h e m) i) ∙ ap pos (mul_comm (weight s e) _)))

  -- the laws of a step
  mono : (f g : ℕ → ℕ) → ((t : ℕ) → t < n → f t ≤ g t) → (s : ℕ) → s < n → step f s ≤ step g s
  mono f g k s h = sum_mono (ContainsAt (edges s)) _ _ (λ e m. mul-le-mul_right (weight s e) (k e.successor (next s h e m))) (edges s) (all_has_itself (edges s))

  scale : (m : ℕ) (f : ℕ → ℕ) (s : ℕ) → step (λ t. m * f t) s ≡ m * step f s
  scale m f s = sum_times m (λ e. f e.successor) (weight s) (edges s)

  plus : (f g : ℕ → ℕ) (s : ℕ) → step (λ t. f t + g t) s ≡ step f s + step g s
  plus f g s = sum_plus (λ e. f e.successor) (λ e. g e.successor) (weight s) (edges s)

  sums : (s : ℕ) → s < n → step (λ _. 1) s ≡ M
  sums s h = ap nat_abs (sym (mean-is s h (λ _. 1)) ∙ whole_row x (lawful.rows s h) proper inside)

  -- a claim at the setting, in naturals
  counted : (k : Said) → Claimed k c G b → (s : ℕ) → s < n → k.tests (bad c s) s ≡ true
      → InOrder k.most (pos (k.adds s * M + step k.number s)) (pos (k.number s * M))
  counted k u s h t = rw (mean-is s h k.number) at (claim x (lawful.rows s h) proper inside k s (u s h t))

  keeps : (L : ℕ) (v : List ℕ) → SafeWitness c G b L v → (k : ℕ) → KeepsTo c L x k
  keeps L v u k = rw (reach-is k c.start lawful.starts) (at_most_in _ _
      (omega (arith, mul-le-mul_right (M ^ k) u.begins, safe n M (bad c) step mono scale plus sums million (at v) u.full most k c.start lawful.starts)))
    where
      most : (s : ℕ) → s < n → bad c s ≡ false → step (at v) s ≤ at v s * M
      most s h e = omega (arith, ints, counted (at_most (at v)) (at_most_lem u) s h (not_from_false _ e))

  exceeds : (L : ℕ) (v w : List ℕ) → UnsafeWitness c G b L v w → Exceeds c L x (step_number c L v w)
  exceeds L v w u = let some = mul-pos lawful.unit_some (one-le-pow 3 x.denominator x.some) in
      rw (reach-is (step_number c L v w) c.start lawful.starts) (below_in _ _
      (omega (arith, unsafe n M (bad c) step mono scale plus sums million (at v) u.full u.numbers.most least (at w) waits some L c.start lawful.starts u.begins)))
    where
      least : (s : ℕ) → s < n → bad c s ≡ false → 0 < at v s → at v s * M ≤ step (at v) s
      least s h e p = omega (arith, ints, counted (at_least (at v)) (at_least_lem u) s h ((tested _ _).1 (e, p)))

      waits : (s : ℕ) → s < n → bad c s ≡ false → 0 < at v s → M + step (at w) s ≤ at w s * M
      waits s h e p = omega (arith, ints, counted (steps (at v) (at w)) (in_steps u) s h ((tested _ _).1 (e, p)))

pub safe_is_safe : SafeIsSafe
safe_is_safe c G L b v lawful proper u x inside = keeps c G b x lawful proper inside u.chances L v u

pub unsafe_is_unsafe : UnsafeIsUnsafe
unsafe_is_unsafe c G L b v w lawful proper u x inside = exceeds c G b x lawful proper inside u.chances L v w u
