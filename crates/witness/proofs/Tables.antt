-- A table of coefficients as its rates are set, in place.
use Rattle.std.proofs.Common.{◌≡◌, ℕ, zero, suc, ◌+◌, ◌-◌, ◌*◌, ◌/◌, ◌^◌, ◌<◌, ◌≤◌, List, [], ◌∷◌, ◌++◌, length, take, ℤ, pos, ◌+ℤ◌, nat_abs, sym, refl, ap, ◌∙◌, subst, inl, inr, zero-le, pow-suc, arith, w64, to_z, of_z}
use Rattle.std.proofs.lemmas.Int.{to_z-of_z}
use Rattle.std.proofs.lemmas.Bool.Decides.{leb_tells}
use Rattle.std.proofs.lemmas.List.{get_or_append_left, get_or-append_right, length-append, get_or_past, get_or-take, length-take-le}
use Rattle.theory.specs.Words.{◌·◌}
use Rattle.theory.specs.Values.{eval}
use Rattle.theory.specs.Witness.{at}
use Rattle.theory.proofs.Eval.{eval_same, eval-at}
use Rattle.witness.specs.Rows.{entry, Small, room}
use Rattle.witness.proofs.Signs.{nat_abs_add, times_small, fits}

-- ---- the last rate set in the entries below i
abbrev pub SetTo : ℕ → ℕ → List ℤ → List ℤ → List ℤ → ℕ → Type 0
SetTo G g low start high i =
    ((k : ℕ) → k < i → entry low k ≡ G · entry start k +ℤ g · entry high k) × ((k : ℕ) → i ≤ k → entry low k ≡ entry start k)

-- ---- bounds
pub room_most : (j : ℕ) → 1 ≤ j → j ≤ 3 → (room j ≤ 2 ^ 40) × (2000 * room j ≡ room (j - 1))
room_most zero l h = absurd (omega arith)
room_most (suc zero) l h = (omega arith, refl)
room_most (suc (suc zero)) l h = (omega arith, refl)
room_most (suc (suc (suc zero))) l h = (omega arith, refl)
room_most (suc (suc (suc (suc j)))) l h = absurd (omega arith)

pub room_least : (j : ℕ) → j ≤ 3 → (8000 ≤ room j) × (room j ≤ room 0)
room_least zero h = (omega arith, omega arith)
room_least (suc zero) h = (omega arith, omega arith)
room_least (suc (suc zero)) h = (omega arith, omega arith)
room_least (suc (suc (suc zero))) h = (omega arith, omega arith)
room_least (suc (suc (suc (suc j)))) h = absurd (omega arith)

pub small_more : (b B : ℕ) (xs : List ℤ) → b ≤ B → Small b xs → Small B xs
small_more b B xs h s k = omega (arith, s k)

pub mix_small : (G g b : ℕ) (x y : ℤ) → G ≤ 1000 → g ≤ 1000 → nat_abs x ≤ b → nat_abs y ≤ b → nat_abs (G · x +ℤ g · y) ≤ 2000 * b
mix_small G g b x y hG hg hx hy =
    omega (arith, times_small G 1000 b x hG hx, times_small g 1000 b y hg hy, nat_abs_add (G · x) (g · y))

-- ---- a table in two halves, for one rate less
pub record Halves (j : ℕ) (table low high : List ℤ) : Type 0 where
  pub low_long : length low ≡ 2 ^ (j - 1)
  pub high_long : length high ≡ 2 ^ (j - 1)
  pub low_is : (k : ℕ) → k < 2 ^ (j - 1) → entry low k ≡ entry table k
  pub high_is : (k : ℕ) → entry high k ≡ entry table (k + 2 ^ (j - 1))

halving : (j : ℕ) → 1 ≤ j → 2 ^ j ≡ 2 ^ (j - 1) + 2 ^ (j - 1)
halving zero h = absurd (omega arith)
halving (suc j) h = let e : suc j - 1 ≡ j = omega arith in rw e (omega (arith, pow-suc 2 j))

pub halves : (j : ℕ) (table low high : List ℤ) → 1 ≤ j → length table ≡ 2 ^ j → table ≡ low ++ high → length low ≡ length table / 2 → Halves j table low high
halves j table low high some full parts front =
    let two = halving j some in
    let long : length low ≡ 2 ^ (j - 1) = omega arith in
    let sum : length table ≡ length low + length high = ap length parts ∙ length-append low high in
    let other : length high ≡ 2 ^ (j - 1) = omega arith in
    record {
      low_long = long;
      high_long = other;
      low_is = λ k h. sym (ap (λ xs. entry xs k) parts ∙ get_or_append_left low high (pos 0) k (omega arith));
      high_is = λ k. let e : k + 2 ^ (j - 1) - 2 ^ (j - 1) ≡ k = omega arith in
          sym (ap (λ xs. entry xs (k + 2 ^ (j - 1))) parts ∙ get_or-append_right low high (2 ^ (j - 1)) (k + 2 ^ (j - 1)) (pos 0) long (omega arith) ∙ ap (entry high) e);
    }

-- what holds of every entry within the list, and of 0, holds of every entry
pub small-within : (b : ℕ) (xs : List ℤ) → ((k : ℕ) → k < length xs → nat_abs (entry xs k) ≤ b) → Small b xs
small-within b xs h k = elim (leb_tells (length xs) k) [ inl t ↦ rw (get_or_past xs k (pos 0) t.1) zero-le | inr t ↦ h k t.1 ]

module _ {j : ℕ} {table low high : List ℤ} (halved : Halves j table low high) where
  pub low_small : (b : ℕ) → Small b table → Small b low
  low_small b s = small-within b low (λ k h. rw (halved.low_is k (omega (arith, halved.low_long))) (s k))

  pub high_small : (b : ℕ) → Small b table → Small b high
  high_small b s k = rw (halved.high_is k) (s (k + 2 ^ (j - 1)))

  module _ (G g : ℕ) (after : List ℤ) (set_to : (k : ℕ) → k < length low → entry after k ≡ G · entry low k +ℤ g · entry high k) where
    pub after_small : (b : ℕ) → G ≤ 1000 → g ≤ 1000 → length after ≡ length low → Small b table → Small (2000 * b) after
    after_small b hG hg e s = small-within (2000 * b) after (λ k h. let l : k < length low = omega arith in
        rw (set_to k l) (mix_small G g b (entry low k) (entry high k) hG hg (low_small b s k) (high_small b s k)))

    step : (i : ℕ) (point : List ℕ) → j - 1 ≡ i → at point i ≡ g → eval G (at point) (suc i) (entry table) ≡ eval G (at (take i point)) i (entry after)
    step i point e last =
        eval_same G (at point) i _ (entry after) (λ k h.
        let l : k < 2 ^ (j - 1) = rw e h in
        let p : k + 2 ^ (j - 1) ≡ k + 2 ^ i = ap (λ n. k + 2 ^ n) e in
        (λ t. G · sym (halved.low_is k l) t +ℤ last t · (ap (entry table) (sym p) ∙ sym (halved.high_is k)) t)
        ∙ sym (set_to k (omega (arith, halved.low_long))))
        ∙ eval-at G (at point) (at (take i point)) i (entry after) (λ p h. sym (get_or-take i point p 0 h))

    -- one rate set, the others to be set in the lower half
    pub value_step : (point : List ℕ) → length point ≡ j → 1 ≤ j → at point (j - 1) ≡ g
        → eval G (at point) j (entry table) ≡ eval G (at (take (j - 1) point)) (j - 1) (entry after)
    value_step point e some last = let up : j ≡ suc (j - 1) = omega arith in
        ap (λ n. eval G (at point) n (entry table)) up ∙ step (j - 1) point refl last

-- what is left once the last rate of a point is set
abbrev pub front : List ℕ → List ℕ
front point = take (length point - 1) point

pub record Rest (G : ℕ) (point : List ℕ) (table after : List ℤ) : Type 0 where
  pub fewer : length (front point) < length point
  pub point_few : (p : ℕ) → at (front point) p ≤ 1000
  pub few : length (front point) ≤ 3
  pub full : length after ≡ 2 ^ length (front point)
  pub small : Small (room (length (front point))) after
  pub worth : eval G (at point) (length point) (entry table) ≡ eval G (at (front point)) (length (front point)) (entry after)

pub take_few : (n b : ℕ) (xs : List ℕ) → ((p : ℕ) → at xs p ≤ b) → (p : ℕ) → at (take n xs) p ≤ b
take_few zero b xs h p = zero-le
take_few (suc n) b [] h p = zero-le
take_few (suc n) b (x ∷ xs) h zero = h zero
take_few (suc n) b (x ∷ xs) h (suc p) = take_few n b xs (λ k. h (suc k)) p

pub rest_of : (G : ℕ) (point : List ℕ) (table low high after : List ℤ) → G ≤ 1000 → ((p : ℕ) → at point p ≤ 1000) → 1 ≤ length point → length point ≤ 3
    → Halves (length point) table low high → Small (room (length point)) table → length after ≡ length low
    → ((k : ℕ) → k < length low → entry after k ≡ G · entry low k +ℤ at point (length point - 1) · entry high k) → Rest G point table after
rest_of G point table low high after hG hp some few halved small long set_to =
    let j = length point in
    let short : length (front point) ≡ j - 1 = length-take-le (j - 1) point (omega arith) in
    let S : ℕ → Type 0 = λ b. Small b after in
    let room-is : 2000 * room j ≡ room (length (front point)) = (room_most j some few).1 ∙ ap room (sym short) in
    record {
      fewer = omega arith;
      point_few = take_few (j - 1) 1000 point hp;
      few = omega arith;
      full = long ∙ halved.low_long ∙ ap (λ n. 2 ^ n) (sym short);
      small = subst S room-is (after_small halved G (at point (j - 1)) after set_to (room j) hG (hp (j - 1)) long small);
      worth = value_step halved G (at point (j - 1)) after set_to point refl some refl ∙ ap (λ n. eval G (at (front point)) n (entry after)) (sym short);
    }

-- a table of coefficients as the front of the array that holds it
pub front-small : (n b B : ℕ) (xs : List ℤ) → b ≤ B → Small b xs → Small B (take n xs)
front-small zero b B xs h s k = zero-le
front-small (suc n) b B [] h s k = zero-le
front-small (suc n) b B (x ∷ xs) h s zero = omega (arith, s zero)
front-small (suc n) b B (x ∷ xs) h s (suc k) = front-small n b B xs h (λ i. s (suc i)) k

pub front-worth : (G n j : ℕ) (g : ℕ → ℕ) (xs : List ℤ) → n ≡ 2 ^ j → eval G g j (entry (take n xs)) ≡ eval G g j (entry xs)
front-worth G n j g xs e = eval_same G g j _ _ (λ i h. get_or-take n xs i (pos 0) (omega arith))

-- the numbers of the rates that are named, and a table for them, as the fronts of their arrays
pub fronts-worth : (G n j : ℕ) (numbers : List ℕ) (xs : List ℤ) → j ≤ length numbers → n ≡ 2 ^ j
    → eval G (at (take j numbers)) (length (take j numbers)) (entry (take n xs)) ≡ eval G (at numbers) j (entry xs)
fronts-worth G n j numbers xs long e =
    ap (λ k. eval G (at (take j numbers)) k (entry (take n xs))) (length-take-le j numbers long)
    ∙ eval-at G (at (take j numbers)) (at numbers) j (entry (take n xs)) (λ p h. get_or-take j numbers p 0 h)
    ∙ front-worth G n j (at numbers) xs e

-- ---- a table of one rate
pub only_small : (G : ℕ) (point : List ℕ) (table : List ℤ) (r : ℤ) → G ≤ 1000 → at point 0 ≤ 1000 → Small (room 1) table
    → r ≡ G · to_z w64 (of_z w64 (entry table 0)) +ℤ at point 0 · to_z w64 (of_z w64 (entry table 1)) → nat_abs r ≤ room 0
only_small G point table r hG hg small e =
    rw (e, to_z-of_z w64 (entry table 0) (fits w64 (entry table 0) (omega (arith, small 0))), to_z-of_z w64 (entry table 1) (fits w64 (entry table 1) (omega (arith, small 1))))
    (mix_small G (at point 0) (room 1) (entry table 0) (entry table 1) hG hg (small 0) (small 1))
