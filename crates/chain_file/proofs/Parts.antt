-- Reading from a part: the number in a few bytes, and the fault of a part that is left as it was.
use Rattle.std.proofs.Common.{◌≡◌, ℕ, zero, suc, ◌+◌, ◌<◌, ◌≤◌, Bool, true, false, List, [], ◌∷◌, ◌++◌, length, take, drop, sym, refl, ap, ◌∙◌, add-zero, arith, drop-drop, w16, w32, to_z}
use Rattle.std.specs.Int.{from_le_bytes}
use Rattle.std.proofs.lemmas.List.{get_or-take, length-take, length-drop, drop-take}
use Rattle.std.proofs.lemmas.Grind.{common_steps}
use Rattle.std.specs.Prelude.{slice_index, unsigned_abs, Result, Ok, Err, OnOk, IfErr}
use Rattle.chain_file.specs.Parts.{answer_by, Shows}
use Rattle.std.proofs.lemmas.Int.{ints}
use Rattle.std.proofs.lemmas.Bool.Decides.{nat_tests}
use Rattle.chain.specs.declared.refusal.Refusal.{Refusal}
use Rattle.chain_format.specs.Reader.{Answer, refused, got, Reader, Part, value_at, number, is, repeat, field, counted}
use Rattle.chain_format.specs.Format.{small}
use Rattle.chain_format.proofs.Steps.{value-drop, then_got, tested_no, tested_yes}
use Rattle.chain_format.proofs.RowLaws.{true_from}

value-take : (xs : List ℕ) (k w at : ℕ) → at + w ≤ k → value_at (take k xs) w at ≡ value_at xs w at
unfolding value_at
value-take xs k zero at h = refl
value-take xs k (suc w) at h = rw (get_or-take k xs at 0 (omega arith), value-take xs k w (at + 1) (omega arith))

-- the word of the w bytes at a place
in_front : (bs word : List ℕ) (w at : ℕ) → word ≡ take w (drop at bs) → value_at word w 0 ≡ value_at bs w at
in_front bs word w at e = rw e (value-take (drop at bs) w w 0 (omega arith) ∙ value-drop bs at w 0 ∙ rw add-zero refl)

-- up to four bytes, and 0 behind them
word_is : (xs : List ℕ) → length xs ≤ 4 → from_le_bytes w32 (xs ++ drop (length xs) (0 ∷ 0 ∷ 0 ∷ 0 ∷ [])) ≡ value_at xs (length xs) 0
unfolding value_at
word_is [] h = refl
word_is (a ∷ []) h = omega arith
word_is (a ∷ b ∷ []) h = omega arith
word_is (a ∷ b ∷ c ∷ []) h = omega arith
word_is (a ∷ b ∷ c ∷ d ∷ []) h = omega arith
word_is (a ∷ b ∷ c ∷ d ∷ e ∷ xs) h = absurd (omega arith)

-- the bytes copied from a place on to the front of four zeros
pub number_in : (bs word : List ℕ) (w at : ℕ) → w ≤ 4 → at + w ≤ length bs → word ≡ take w (drop at bs)
    → from_le_bytes w32 (word ++ drop w (0 ∷ 0 ∷ 0 ∷ 0 ∷ [])) ≡ value_at bs w at
number_in bs word w at h l e =
    let n : length word ≡ w = ap length e ∙ length-take w (drop at bs) ∙ omega (arith, length-drop at bs) in
    let few : length word ≤ 4 = omega arith in
    rw n at (word_is word few) ∙ in_front bs word w at e

-- ---- what is left of a part, once a word is taken from its front
pub taken_is : (bs rest word : List ℕ) (at w : ℕ) → rest ≡ take (length rest) (drop at bs) → w ≤ length rest → word ≡ take w rest → value_at word w 0 ≡ value_at bs w at
taken_is bs rest word at w e l t = in_front bs word w at (t ∙ ap (take w) e ∙ grind (arith, common_steps))

pub two_taken : (xs : List ℕ) → 2 ≤ length xs → slice_index xs 0 ∷ slice_index xs 1 ∷ [] ≡ take 2 xs
two_taken [] h = absurd (omega arith)
two_taken (a ∷ []) h = absurd (omega arith)
two_taken (a ∷ b ∷ xs) h = refl

pub left_after : (bs rest more : List ℕ) (at w : ℕ) → rest ≡ take (length rest) (drop at bs) → more ≡ drop w rest → length more + w ≡ length rest
    → more ≡ take (length more) (drop (at + w) bs)
left_after bs rest more at w e m l =
    let n : length rest ≡ w + length more = omega arith in
    m ∙ ap (drop w) e ∙ ap (λ k. drop w (take k (drop at bs))) n ∙ drop-take w (length more) (drop at bs) ∙ ap (take (length more)) (drop-drop w at bs)

-- ---- the sizes of coefficients, in two's complement
pub small_by_size : (n : ℕ) → n < 65536 → unsigned_abs (to_z w16 n) ≤ 8000 → small n ≡ true
small_by_size n f h = grind (arith, nat_tests, ints)

pub large_by_size : (n : ℕ) → n < 65536 → 8000 < unsigned_abs (to_z w16 n) → small n ≡ false
large_by_size n f h = grind (arith, nat_tests, ints)

-- ---- a number that has to be x
is_not : (x v : ℕ) → (v ≡ x → ⊥) → is x v ≡ false
is_not x v h = grind (arith, nat_tests, h)

pub field_is : (p : Part) (w x at v to : ℕ) → number p w at ≡ got v to → v ≡ x → field p w (is x) at ≡ got x to
field_is p w x at v to e h = tested_yes _ _ _ _ _ _ e (true_from x (x + 1) v (omega arith) (omega arith)) ∙ ap (λ k. got k to) h

pub field_not : (p : Part) (w x at v to : ℕ) → number p w at ≡ got v to → (v ≡ x → ⊥) → field p w (is x) at ≡ refused (p.fault at)
field_not p w x at v to e h = tested_no _ _ _ _ _ _ e (is_not x v h)

-- ---- what is read from a part, as it is held after other reading
pub held : {A : Type 0} {p q : Part} {x : Answer A} (r : Part → Answer A) → q ≡ p → r q ≡ x → r p ≡ x
held r e h = ap r (sym e) ∙ h

-- and as it is held when it is made
pub begun : {A : Type 0} {p q : Part} {m at : ℕ} {x : Answer A} (r : Part → Reader A) → q ≡ p → m ≡ at → r q m ≡ x → r p at ≡ x
begun {p = p} {q = q} {m = m} {at = at} r e f h = held (λ o. r o at) e (ap (λ k. r q k) (sym f) ∙ h)

pub answer_by-to : {A B : Type 0} (view : B → A) (r : Result B Refusal) (to at : ℕ) → OnOk r (to ≡ at) → answer_by view r to ≡ answer_by view r at
answer_by-to view (Ok b) to at e = ap (λ k. got (view b) k) e
answer_by-to view (Err q) to at e = refl

pub Shows-along : {A B : Type 0} (view : A → B) (x y : Answer A) (r : Result B Refusal) (to : ℕ) → x ≡ y → Shows view y r to → Shows view x r to
Shows-along view x y (Ok b) to e h = (h.0, e ∙ h.1, h.2)
Shows-along view x y (Err q) to e h = e ∙ h

pub Shows-ok : {A B : Type 0} (view : A → B) (x : Answer A) (r : Result B Refusal) (to : ℕ) → Shows view x r to → OnOk r ((v : A) × (x ≡ got v to))
Shows-ok view x (Ok b) to h = (h.0, h.1)
Shows-ok view x (Err q) to h = tt

pub Shows-err : {A B : Type 0} (view : A → B) (x : Answer A) (r : Result B Refusal) (to : ℕ) → Shows view x r to → IfErr r (λ q. x ≡ refused q)
Shows-err view x (Ok b) to h = tt
Shows-err view x (Err q) to h = h

-- ---- how many values, and then the values, read from the same part as it is held later
pub counted-got : {S A : Type 0} (p q : Part) (ok : ℕ → Bool) (r : Part → S → Reader A) (next : S → A → S) (s : S) (at k mid : ℕ) (xs : List A) (to : ℕ)
    → field p 1 ok at ≡ got k mid → q ≡ p → repeat (r q) next k s mid ≡ got xs to → counted p 1 ok (r p) next s at ≡ got xs to
counted-got p q ok r next s at k mid xs to f e h = then_got _ _ _ _ _ f ∙ held (λ o. repeat (r o) next k s mid) e h

pub counted-cut : {S A : Type 0} (p q : Part) (ok : ℕ → Bool) (r : Part → S → Reader A) (next : S → A → S) (s : S) (at k mid : ℕ) (x : Refusal)
    → field p 1 ok at ≡ got k mid → q ≡ p → repeat (r q) next k s mid ≡ refused x → counted p 1 ok (r p) next s at ≡ refused x
counted-cut p q ok r next s at k mid x f e h = then_got _ _ _ _ _ f ∙ held (λ o. repeat (r o) next k s mid) e h
