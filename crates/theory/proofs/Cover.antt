-- What is promised of the boxes is kept by a cut and by a verdict.
use Rattle.std.proofs.Common.{◌≡◌, ℕ, suc, ◌*◌, ◌<◌, ◌≤◌, ◌≢◌, ◌⊎◌, List, [], length, get_or, set, sym, refl, ap, ◌∙◌, subst, inl, inr, lt_of_lt_of_le, lt_of_le_of_lt, le_of_lt, mul-le-mul_right, arith, length-append, length-set, get_or-set_other, get_or-set_same}
use native.Mathlib.Decide.{dec_le, dec_lt, ℕ_discrete}
use lib.ListN.{get_or-append}
use lib.Seq.{get_or-append_seam}
use Rattle.chain.specs.Chains.{Meaning}
use Rattle.theory.specs.declared.verdict.Verdict.{Verdict}
use Rattle.theory.specs.declared.verdict.Verdict.TheVariants.{Open, Safe, Unsafe}
use Rattle.theory.specs.declared.record.BoxRecord.{BoxRecord}
use Rattle.theory.specs.Boxes.{Proper, Setting, Inside}
use Rattle.theory.specs.Chance.{KeepsTo, Exceeds}
use Rattle.theory.specs.Witness.{at}
use Rattle.theory.specs.Maps.{no_box, box_at, sides_of, low_half, high_half, cut_boxes, judged}
use Rattle.theory.specs.Runs.{Layout, Strictly, Guarantee}

-- what stands at the number k after number i is set to x
abbrev pub SetAt : {A : Type 0} → List A → ℕ → A → A → ℕ → Type 0
SetAt xs i x d k = ((k ≡ i) × (get_or (set xs i x) k d ≡ x)) ⊎ ((k ≢ i) × (get_or (set xs i x) k d ≡ get_or xs k d))

set_cases : {A : Type 0} (xs : List A) (i : ℕ) (x d : A) (k : ℕ) → i < length xs → SetAt xs i x d k
set_cases xs i x d k h = elim (ℕ_discrete k i) [
  | yes e ↦ inl (e, rw e (get_or-set_same xs i x d h))
  | no n ↦ inr (n, get_or-set_other xs i k x d n)
]

-- what a verdict says of the settings in its box
abbrev pub SafeIn : Meaning → ℕ → ℕ → BoxRecord → Type 0
SafeIn c G L b = (y : Setting) → Inside c.rates G (sides_of b) y → (k : ℕ) → KeepsTo c L y k

abbrev pub ExceedsIn : Meaning → ℕ → ℕ → BoxRecord → ℕ → Type 0
ExceedsIn c G L b steps = (y : Setting) → Inside c.rates G (sides_of b) y → Exceeds c L y steps

abbrev pub Shown : Meaning → ℕ → ℕ → BoxRecord → Verdict → Type 0
Shown c G L b v = ((bound : ℕ) → v ≡ Safe bound → SafeIn c G L b) × ((bound steps : ℕ) → v ≡ Unsafe bound steps → ExceedsIn c G L b steps)

pub open_safe : {bound : ℕ} → Open ≡ Safe bound → ⊥
open_safe e = let z : ◌≡◌ {A = ℕ} 0 1 = cc in omega arith

pub open_unsafe : {bound steps : ℕ} → Open ≡ Unsafe bound steps → ⊥
open_unsafe e = let z : ◌≡◌ {A = ℕ} 0 1 = cc in omega arith

-- both sides of a box reach every rate
pub record Long (b : BoxRecord) : Type 0 where
  pub low : length b.low ≡ 4
  pub high : length b.high ≡ 4

-- a cut that may be made
pub record Cuts (rates : ℕ) (b : BoxRecord) (r x : ℕ) : Type 0 where
  pub long : Long b
  pub few : rates ≤ 4
  pub rate : r < rates
  pub above : at b.low r < x
  pub below : x < at b.high r

-- ---- the halves of a box
module _ {rates : ℕ} {b : BoxRecord} {r x : ℕ} (cut : Cuts rates b r x) where
  pub low_at : (k : ℕ) → SetAt b.low r x 0 k
  low_at k = set_cases b.low r x 0 k (omega arith)

  pub high_at : (k : ℕ) → SetAt b.high r x 0 k
  high_at k = set_cases b.high r x 0 k (omega arith)

  pub low_long : Long (low_half b r x)
  low_long = record { low = cut.long.low; high = length-set b.high r x ∙ cut.long.high }

  pub high_long : Long (high_half b r x)
  high_long = record { low = length-set b.low r x ∙ cut.long.low; high = cut.long.high }

  module _ (G : ℕ) where
    pub low_proper : Proper rates G (sides_of b) → Proper rates G (sides_of (low_half b r x))
    low_proper p = record {
      grid = p.grid;
      wide = λ k h. elim (high_at k) [ inl t ↦ rw t.1 (rw t.0 cut.above) | inr t ↦ rw t.1 (p.wide k h) ];
      within = λ k h. elim (high_at k) [ inl t ↦ rw t.1 (omega (arith, rw t.0 at (p.within k h))) | inr t ↦ rw t.1 (p.within k h) ];
    }

    pub high_proper : Proper rates G (sides_of b) → Proper rates G (sides_of (high_half b r x))
    high_proper p = record {
      grid = p.grid;
      wide = λ k h. elim (low_at k) [ inl t ↦ rw t.1 (rw t.0 cut.below) | inr t ↦ rw t.1 (p.wide k h) ];
      within = p.within;
    }

    module _ (y : Setting) where
      low_inside : G * y.numerator r ≤ x * y.denominator → Inside rates G (sides_of b) y → Inside rates G (sides_of (low_half b r x)) y
      low_inside c s k h = elim (high_at k) [ inl t ↦ ((s k h).0, rw t.1 (rw t.0 c)) | inr t ↦ rw t.1 (s k h) ]

      high_inside : x * y.denominator ≤ G * y.numerator r → Inside rates G (sides_of b) y → Inside rates G (sides_of (high_half b r x)) y
      high_inside c s k h = elim (low_at k) [ inl t ↦ (rw t.1 (rw t.0 c), (s k h).1) | inr t ↦ rw t.1 (s k h) ]

      low_strictly : Strictly rates G (sides_of (low_half b r x)) y → Strictly rates G (sides_of b) y
      low_strictly s k h = elim (high_at k) [
        | inl t ↦ ((s k h).0, lt_of_lt_of_le (rw t.1 at (s k h).1) (mul-le-mul_right y.denominator (rw t.0 (le_of_lt cut.below))))
        | inr t ↦ rw t.1 at (s k h)
      ]

      high_strictly : Strictly rates G (sides_of (high_half b r x)) y → Strictly rates G (sides_of b) y
      high_strictly s k h = elim (low_at k) [
        | inl t ↦ (lt_of_le_of_lt (mul-le-mul_right y.denominator (rw t.0 (le_of_lt cut.above))) (rw t.1 at (s k h).0), (s k h).1)
        | inr t ↦ rw t.1 at (s k h)
      ]

      not_both : Strictly rates G (sides_of (low_half b r x)) y → Strictly rates G (sides_of (high_half b r x)) y → ⊥
      not_both s t = elim (high_at r) [
        | inl u ↦ elim (low_at r) [ inl v ↦ omega (arith, rw u.1 at (s r cut.rate).1, rw v.1 at (t r cut.rate).0) | inr v ↦ v.0 refl ]
        | inr u ↦ u.0 refl
      ]

-- ---- the boxes after a cut
module _ (bs : List BoxRecord) (i r x : ℕ) (l : i < length bs) where
  cut-length : length (cut_boxes bs i r x) ≡ suc (length bs)
  cut-length = simp (length-append, length-set) (omega arith)

  cut_low : box_at (cut_boxes bs i r x) i ≡ low_half (box_at bs i) r x
  cut_low = get_or-append (set bs i _) _ no_box i (rw length-set l) ∙ get_or-set_same bs i _ no_box l

  cut_other : (k : ℕ) → k < length bs → k ≢ i → box_at (cut_boxes bs i r x) k ≡ box_at bs k
  cut_other k h n = get_or-append (set bs i _) _ no_box k (rw length-set h) ∙ get_or-set_other bs i k _ no_box n

  cut_high : box_at (cut_boxes bs i r x) (length bs) ≡ high_half (box_at bs i) r x
  cut_high = ap (box_at (cut_boxes bs i r x)) (sym (length-set bs i _)) ∙ get_or-append_seam (set bs i _) _ [] no_box

  -- what stands at a number
  data Place (k : ℕ) : Type 0 where
    at_low : k ≡ i → box_at (cut_boxes bs i r x) k ≡ low_half (box_at bs i) r x → Place k
    at_other : k < length bs → k ≢ i → box_at (cut_boxes bs i r x) k ≡ box_at bs k → Place k
    at_high : k ≡ length bs → box_at (cut_boxes bs i r x) k ≡ high_half (box_at bs i) r x → Place k

  place : (k : ℕ) → k < length (cut_boxes bs i r x) → Place k
  place k h = elim (ℕ_discrete k i) [
    | yes e ↦ at_low e (ap (box_at (cut_boxes bs i r x)) e ∙ cut_low)
    | no n ↦ elim (dec_lt k (length bs)) [
      | yes p ↦ at_other p n (cut_other k p n)
      | no p ↦ let e : k ≡ length bs = omega (arith, cut-length) in at_high e (ap (box_at (cut_boxes bs i r x)) e ∙ cut_high)
    ]
  ]

  -- what holds of both halves and of the other boxes holds of all
  pub cut-each : (P : BoxRecord → Type 0) → P (low_half (box_at bs i) r x) → P (high_half (box_at bs i) r x) → ((k : ℕ) → k < length bs → P (box_at bs k))
      → (k : ℕ) → k < length (cut_boxes bs i r x) → P (box_at (cut_boxes bs i r x) k)
  cut-each P low high other k h = elim (place k h) [ at_low _ o ↦ rw o low | at_other k' _ o ↦ rw o (other k k') | at_high _ o ↦ rw o high ]

module _ {c : Meaning} {l : Layout} {bs : List BoxRecord} (g : Guarantee c l bs) (i r x : ℕ) (h : i < length bs) (cut : Cuts c.rates (box_at bs i) r x) where
  abbrev b : BoxRecord
  b = box_at bs i

  abbrev now : List BoxRecord
  now = cut_boxes bs i r x

  covered_cut : (y : Setting) (k : ℕ) → k < length bs → Inside c.rates l.grid (sides_of (box_at bs k)) y
      → (k : ℕ) × (k < length now) × Inside c.rates l.grid (sides_of (box_at now k)) y
  covered_cut y k j s = elim (ℕ_discrete k i) [
    | yes e ↦ let s' : Inside c.rates l.grid (sides_of b) y = rw e at s in elim (dec_le (l.grid * y.numerator r) (x * y.denominator)) [
      | yes p ↦ (i, omega (arith, cut-length bs i r x h), rw (cut_low bs i r x h) (low_inside cut l.grid y p s'))
      | no p ↦ (length bs, omega (arith, cut-length bs i r x h), rw (cut_high bs i r x h) (high_inside cut l.grid y (omega arith) s'))
    ]
    | no n ↦ (k, omega (arith, cut-length bs i r x h), rw (cut_other bs i r x h k j n) s)
  ]

  apart_cut : (y : Setting) (k k' : ℕ) → Place bs i r x h k → Place bs i r x h k'
      → Strictly c.rates l.grid (sides_of (box_at now k)) y → Strictly c.rates l.grid (sides_of (box_at now k')) y → k ≡ k'
  apart_cut y k k' (at_low e p) (at_low e' p') s s' = e ∙ sym e'
  apart_cut y k k' (at_low e p) (at_other j n p') s s' = e ∙ g.apart y i k' h j (low_strictly cut l.grid y (rw p at s)) (rw p' at s')
  apart_cut y k k' (at_low e p) (at_high e' p') s s' = absurd (not_both cut l.grid y (rw p at s) (rw p' at s'))
  apart_cut y k k' (at_other j n p) (at_low e' p') s s' = g.apart y k i j h (rw p at s) (low_strictly cut l.grid y (rw p' at s')) ∙ sym e'
  apart_cut y k k' (at_other j n p) (at_other j' n' p') s s' = g.apart y k k' j j' (rw p at s) (rw p' at s')
  apart_cut y k k' (at_other j n p) (at_high e' p') s s' = absurd (n (g.apart y k i j h (rw p at s) (high_strictly cut l.grid y (rw p' at s'))))
  apart_cut y k k' (at_high e p) (at_low e' p') s s' = absurd (not_both cut l.grid y (rw p' at s') (rw p at s))
  apart_cut y k k' (at_high e p) (at_other j n p') s s' = absurd (n (g.apart y k' i j h (rw p' at s') (high_strictly cut l.grid y (rw p at s))))
  apart_cut y k k' (at_high e p) (at_high e' p') s s' = e ∙ sym e'

  pub guarantee_cut : Guarantee c l now
  guarantee_cut = record {
    covered = λ y s. let f = g.covered y s in covered_cut y f.0 f.1 f.2;
    apart = λ y k k' j j'. apart_cut y k k' (place bs i r x h k j) (place bs i r x h k' j');
    safe = λ k bound j. cut-each bs i r x h
        (λ b. b.verdict ≡ Safe bound → SafeIn c l.grid l.limit b)
        (λ e. absurd (open_safe e)) (λ e. absurd (open_safe e)) (λ k j. g.safe k bound j) k j;
    exceeding = λ k bound steps j. cut-each bs i r x h
        (λ b. b.verdict ≡ Unsafe bound steps → ExceedsIn c l.grid l.limit b steps)
        (λ e. absurd (open_unsafe e)) (λ e. absurd (open_unsafe e)) (λ k j. g.exceeding k bound steps j) k j;
  }

-- ---- the boxes after a verdict
module _ (bs : List BoxRecord) (i : ℕ) (v : Verdict) (l : i < length bs) where
  abbrev pub judged_boxes : List BoxRecord
  judged_boxes = set bs i (judged (box_at bs i) v)

  pub judged-each : (P : BoxRecord → Type 0) → P (judged (box_at bs i) v) → ((k : ℕ) → k < length bs → P (box_at bs k))
      → (k : ℕ) → k < length judged_boxes → P (box_at judged_boxes k)
  judged-each P here other k h = elim (set_cases bs i (judged (box_at bs i) v) no_box k l)
      [ inl t ↦ rw t.1 here | inr t ↦ rw t.1 (other k (rw length-set at h)) ]

  same_sides : (k : ℕ) → sides_of (box_at judged_boxes k) ≡ sides_of (box_at bs k)
  same_sides k = elim (set_cases bs i (judged (box_at bs i) v) no_box k l) [ inl t ↦ ap sides_of t.1 ∙ ap (λ k. sides_of (box_at bs k)) (sym t.0) | inr t ↦ ap sides_of t.1 ]

module _ {c : Meaning} {l : Layout} {bs : List BoxRecord} (g : Guarantee c l bs) (i : ℕ) (v : Verdict) (h : i < length bs) where
  pub guarantee_judged : Shown c l.grid l.limit (box_at bs i) v → Guarantee c l (judged_boxes bs i v h)
  guarantee_judged shown = record {
    covered = λ y s. let f = g.covered y s in
        (f.0, rw length-set f.1, subst (λ b. Inside c.rates l.grid b y) (sym (same_sides bs i v h f.0)) f.2);
    apart = λ y k k' j j' s s'. g.apart y k k' (rw length-set at j) (rw length-set at j')
        (subst (λ b. Strictly c.rates l.grid b y) (same_sides bs i v h k) s) (subst (λ b. Strictly c.rates l.grid b y) (same_sides bs i v h k') s');
    safe = λ k bound. judged-each bs i v h
        (λ b. b.verdict ≡ Safe bound → SafeIn c l.grid l.limit b)
        (shown.0 bound) (λ k j. g.safe k bound j) k;
    exceeding = λ k bound steps. judged-each bs i v h
        (λ b. b.verdict ≡ Unsafe bound steps → ExceedsIn c l.grid l.limit b steps)
        (shown.1 bound steps) (λ k j. g.exceeding k bound steps j) k;
  }
