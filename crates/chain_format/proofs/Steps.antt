-- What a reader answers, from what the readers answer that it is made of.
use Rattle.std.proofs.Common.{◌≡◌, ℕ, zero, suc, ◌+◌, ◌-◌, ◌*◌, ◌^◌, ◌<◌, ◌≤◌, Bool, true, false, List, [], ◌∷◌, length, get_or, drop, refl, ap, mul-suc, arith}
use native.Mathlib.Nat.{pow-le-pow_right}
use Rattle.std.proofs.lemmas.Bool.{le-leb, lt-leb}
use Rattle.std.proofs.lemmas.List.{get_or-drop}
use Rattle.chain.specs.declared.refusal.Refusal.{Refusal}
use Rattle.chain_format.specs.Reader.{refused, got, Reader, Part, value_at, number, after, ◌then◌, done, mapped, tested, checked, repeat, field}

-- ---- numbers
pub value_none : (bs : List ℕ) (at : ℕ) → value_at bs 0 at ≡ 0
unfolding value_at
value_none bs at = refl

pub value_more : (bs : List ℕ) (w at : ℕ) → 0 < w → value_at bs w at ≡ get_or bs at 0 + 256 * value_at bs (w - 1) (at + 1)
unfolding value_at
value_more bs zero at h = absurd (omega arith)
value_more bs (suc w) at h = let e : suc w - 1 ≡ w = omega arith in rw e

pub value_fits : (w v b : ℕ) → 0 < w → v < 256 ^ (w - 1) → b < 256 → b + 256 * v < 256 ^ w
value_fits zero v b p h l = absurd (omega arith)
value_fits (suc w) v b p h l = let e : suc w - 1 ≡ w = omega arith in omega (arith, rw e at h)

pub width_fits : (w : ℕ) → w ≤ 4 → 256 ^ w ≤ 2 ^ 32
width_fits w h = pow-le-pow_right {n = 256} (omega arith) h

-- a number of what is left after k bytes
pub value-drop : (bs : List ℕ) (k w at : ℕ) → value_at (drop k bs) w at ≡ value_at bs w (k + at)
unfolding value_at
value-drop bs k zero at = refl
value-drop bs k (suc w) at =
    let e : k + (at + 1) ≡ k + at + 1 = omega arith in
    rw (get_or-drop, value-drop bs k w (at + 1), e)

pub number-got : (p : Part) (w at : ℕ) → at + w ≤ p.end → number p w at ≡ got (value_at p.bytes w at) (at + w)
unfolding number
number-got p w at h = rw (le-leb _ _ h)

pub number_cut : (p : Part) (w at : ℕ) → p.end < at + w → number p w at ≡ refused (p.fault p.end)
unfolding number
number_cut p w at h = rw (lt-leb _ _ h)

pub field_cut : (p : Part) (w : ℕ) (ok : ℕ → Bool) (at : ℕ) → p.end < at + w → field p w ok at ≡ refused (p.fault p.end)
unfolding tested after
field_cut p w ok at h = rw (number_cut p w at h)

pub field_wrong : (p : Part) (w : ℕ) (ok : ℕ → Bool) (at : ℕ) → at + w ≤ p.end → ok (value_at p.bytes w at) ≡ false → field p w ok at ≡ refused (p.fault at)
unfolding tested after
field_wrong p w ok at h e = rw (number-got p w at h, e)

pub field-got : (p : Part) (w : ℕ) (ok : ℕ → Bool) (at : ℕ) → at + w ≤ p.end → ok (value_at p.bytes w at) ≡ true → field p w ok at ≡ got (value_at p.bytes w at) (at + w)
unfolding tested after
field-got p w ok at h e = rw (number-got p w at h, e)

-- ---- one after the other
pub then_got : {A B : Type 0} (r : Reader A) (f : A → Reader B) (at : ℕ) (a : A) (mid : ℕ) → r at ≡ got a mid → (r then f) at ≡ f a mid
unfolding ◌then◌ after
then_got r f at a mid e = rw e

pub then_cut : {A B : Type 0} (r : Reader A) (f : A → Reader B) (at : ℕ) (q : Refusal) → r at ≡ refused q → (r then f) at ≡ refused q
unfolding ◌then◌ after
then_cut r f at q e = rw e

pub mapped-got : {A B : Type 0} (g : A → B) (r : Reader A) (at : ℕ) (a : A) (to : ℕ) → r at ≡ got a to → mapped g r at ≡ got (g a) to
unfolding mapped after
mapped-got g r at a to e = rw e

pub mapped-cut : {A B : Type 0} (g : A → B) (r : Reader A) (at : ℕ) (q : Refusal) → r at ≡ refused q → mapped g r at ≡ refused q
unfolding mapped after
mapped-cut g r at q e = rw e

pub done-got : {A : Type 0} (a : A) (at to : ℕ) → at ≡ to → done a at ≡ got a to
unfolding done
done-got a at to e = rw e

-- ---- tests
pub checked_no : {A : Type 0} (q : Refusal) (ok : ℕ → Bool) (r : Reader A) (at : ℕ) → ok at ≡ false → checked q ok r at ≡ refused q
unfolding checked
checked_no q ok r at e = rw e

pub checked_yes : {A : Type 0} (q : Refusal) (ok : ℕ → Bool) (r : Reader A) (at : ℕ) → ok at ≡ true → checked q ok r at ≡ r at
unfolding checked
checked_yes q ok r at e = rw e

pub tested-cut : {A : Type 0} (f : ℕ → Refusal) (ok : A → Bool) (r : Reader A) (at : ℕ) (q : Refusal) → r at ≡ refused q → tested f ok r at ≡ refused q
unfolding tested after
tested-cut f ok r at q e = rw e

pub tested_no : {A : Type 0} (f : ℕ → Refusal) (ok : A → Bool) (r : Reader A) (at : ℕ) (a : A) (to : ℕ) → r at ≡ got a to → ok a ≡ false → tested f ok r at ≡ refused (f at)
unfolding tested after
tested_no f ok r at a to e h = rw (e, h)

pub tested_yes : {A : Type 0} (f : ℕ → Refusal) (ok : A → Bool) (r : Reader A) (at : ℕ) (a : A) (to : ℕ) → r at ≡ got a to → ok a ≡ true → tested f ok r at ≡ got a to
unfolding tested after
tested_yes f ok r at a to e h = rw (e, h)

-- ---- again and again; with other terms for how many, for the state and for the place
pub repeat_nothing : {S A : Type 0} (r : S → Reader A) (next : S → A → S) (n : ℕ) (s : S) (at to : ℕ) → n ≡ 0 → at ≡ to → repeat r next n s at ≡ got [] to
unfolding repeat
repeat_nothing r next n s at to h e = rw (h, e)

pub repeat_empty : {S A : Type 0} (r : S → Reader A) (next : S → A → S) (s : S) (at : ℕ) (xs : List A) (to : ℕ) → length xs ≡ 0 → at ≡ to
    → repeat r next (length xs) s at ≡ got xs to
unfolding repeat
repeat_empty r next s at [] to h e = rw e
repeat_empty r next s at (x ∷ xs) to h e = absurd (omega arith)

pub repeat_next : {S A : Type 0} (r : S → Reader A) (next : S → A → S) (n k : ℕ) (s t : S) (at : ℕ) (a : A) (mid : ℕ) (more : List A) (to end : ℕ)
    → suc k ≡ n → r s at ≡ got a mid → next s a ≡ t → to ≡ end → repeat r next k t mid ≡ got more to → repeat r next n s at ≡ got (a ∷ more) end
unfolding repeat after
repeat_next r next n k s t at a mid more to end l e q x h = rw (← l, e, q, h, x)

pub repeat_stop : {S A : Type 0} (r : S → Reader A) (next : S → A → S) (n : ℕ) (s : S) (at : ℕ) (q : Refusal) → 0 < n → r s at ≡ refused q → repeat r next n s at ≡ refused q
unfolding repeat after
repeat_stop r next zero s at q l e = absurd (omega arith)
repeat_stop r next (suc n) s at q l e = rw e

pub repeat_stop_next : {S A : Type 0} (r : S → Reader A) (next : S → A → S) (n k : ℕ) (s t : S) (at : ℕ) (a : A) (mid : ℕ) (q : Refusal)
    → suc k ≡ n → r s at ≡ got a mid → next s a ≡ t → repeat r next k t mid ≡ refused q → repeat r next n s at ≡ refused q
unfolding repeat after
repeat_stop_next r next n k s t at a mid q l e x h = rw (← l, e, x, h)

pub stride : (at w k n : ℕ) → suc k ≡ n → at + w + w * k ≡ at + w * n
stride at w k n h = omega (arith, ap (λ m. w * m) h, mul-suc w k)

pub never : {A : Type 0} (a : A) (to : ℕ) (q : Refusal) → got a to ≡ refused q → ⊥
never a to q e = let z : ◌≡◌ {A = ℕ} 0 1 = cc in omega arith
