-- The volumes of the boxes make the field's.
use Rattle.std.proofs.Common.{◌≡◌, ℕ, zero, suc, ◌+◌, ◌-◌, ◌*◌, ◌<◌, List, [], ◌∷◌, length, set, sum_by, sym, refl, ap, ◌∙◌, inl, inr, add-mul, mul-add, arith}
use Rattle.std.proofs.lemmas.List.Sums.{sum_by-cons, sum_by_push, sum_by-set}
use Rattle.std.proofs.lemmas.Bool.{cases_eq}
use Rattle.theory.specs.declared.verdict.Verdict.{Verdict}
use Rattle.theory.specs.declared.verdict.Verdict.TheVariants.{Open, Safe, Unsafe}
use Rattle.theory.specs.declared.record.BoxRecord.{BoxRecord}
use Rattle.theory.specs.declared.record.Volumes.{Volumes}
use Rattle.theory.specs.Witness.{at}
use Rattle.theory.specs.Maps.{no_box, box_at, low_half, high_half, cut_boxes, judged, volume, counted, volumes, no_volumes}
use Rattle.theory.proofs.Cover.{Cuts, low_at, high_at, judged_boxes}

abbrev width : BoxRecord → ℕ → ℕ
width b r = at b.high r - at b.low r

volume_same : (n : ℕ) (b b' : BoxRecord) → ((r : ℕ) → r < n → width b r ≡ width b' r) → volume n b ≡ volume n b'
volume_same zero b b' h = refl
volume_same (suc n) b b' h = rw (volume_same n b b' (λ r l. h r (omega arith)), h n (omega arith))

-- ---- the halves of a box
module _ {rates : ℕ} {b : BoxRecord} {r x : ℕ} (cut : Cuts rates b r x) where
  low_width : (k : ℕ) → (k ≡ r → ⊥) → width (low_half b r x) k ≡ width b k
  low_width k n = elim (high_at cut k) [ inl t ↦ absurd (n t.0) | inr t ↦ rw t.1 ]

  high_width : (k : ℕ) → (k ≡ r → ⊥) → width (high_half b r x) k ≡ width b k
  high_width k n = elim (low_at cut k) [ inl t ↦ absurd (n t.0) | inr t ↦ rw t.1 ]

  both_widths : width (low_half b r x) r + width (high_half b r x) r ≡ width b r
  both_widths = elim (high_at cut r) [
    | inl u ↦ elim (low_at cut r) [ inl v ↦ rw (u.1, v.1) (omega arith) | inr v ↦ absurd (v.0 refl) ]
    | inr u ↦ absurd (u.0 refl)
  ]

  halves : (n : ℕ) → r < n → volume n (low_half b r x) + volume n (high_half b r x) ≡ volume n b
  halves zero h = absurd (omega arith)
  halves (suc n) h = elim (cases_eq r n) [
    | inl e ↦ rw (volume_same n (low_half b r x) b (λ k l. low_width k (λ q. omega arith)), volume_same n (high_half b r x) b (λ k l. high_width k (λ q. omega arith)), sym e)
        (sym (mul-add (volume r b) _ _) ∙ ap (λ z. volume r b * z) both_widths)
    | inr e ↦ rw (low_width n (λ q. e (sym q)), high_width n (λ q. e (sym q)))
        (sym (add-mul (volume n (low_half b r x)) _ (width b n)) ∙ ap (λ z. z * width b n) (halves n (omega arith)))
  ]

-- ---- all boxes
abbrev whole_of : Volumes → ℕ
whole_of t = t.safe + t.exceeding + t.pending

counted_adds : (v : Verdict) (n : ℕ) (t : Volumes) → whole_of (counted v n t) ≡ whole_of t + n
counted_adds Open n t = omega arith
counted_adds (Safe bound) n t = omega arith
counted_adds (Unsafe bound steps) n t = omega arith

module _ (rates : ℕ) where
  abbrev pub total : List BoxRecord → ℕ
  total bs = sum_by (volume rates) bs

  volumes-from : (bs : List BoxRecord) (t : Volumes) → whole_of (volumes rates bs t) ≡ whole_of t + total bs
  volumes-from [] t = omega arith
  volumes-from (b ∷ bs) t = omega (arith, volumes-from bs (counted b.verdict (volume rates b) t), counted_adds b.verdict (volume rates b) t, sum_by-cons (volume rates) b bs)

  -- whatever the verdicts
  pub volumes-total : (bs : List BoxRecord) → whole_of (volumes rates bs no_volumes) ≡ total bs
  volumes-total bs = omega (arith, volumes-from bs no_volumes)

  module _ (bs : List BoxRecord) (i : ℕ) (h : i < length bs) where
    pub total-cut : (r x : ℕ) → Cuts rates (box_at bs i) r x → total (cut_boxes bs i r x) ≡ total bs
    total-cut r x cut = let b = box_at bs i in omega (
      arith,
      halves cut rates cut.rate,
      sum_by_push (volume rates) (set bs i (low_half b r x)) (high_half b r x),
      sum_by-set (volume rates) bs i (low_half b r x) no_box h,
    )

    pub total-judged : (v : Verdict) → total (judged_boxes bs i v h) ≡ total bs
    total-judged v = let b = box_at bs i in omega (arith, volume_same rates (judged b v) b (λ _ _. refl), sum_by-set (volume rates) bs i (judged b v) no_box h)
