-- The marks of a file: as far as none is above 1 they are read, and the first above 1 is refused.
use Rattle.std.proofs.Common.{◌≡◌, ℕ, zero, suc, ◌+◌, ◌-◌, ◌<◌, ◌≤◌, true, false, List, get_or, take, drop, refl, ◌∙◌, add-zero, arith}
use Rattle.std.proofs.lemmas.List.{get_or-take, get_or-drop}
use Rattle.std.proofs.lemmas.Bool.Decides.{nat_tests}
use Rattle.chain.specs.declared.refusal.Refusal.TheVariants.{BadMark}
use Rattle.chain_format.specs.Reader.{part, value_at, refused, got, field, within, stay}
use Rattle.chain_format.specs.Format.{marks}
use Rattle.chain_format.proofs.Steps.{field-got, field_wrong}
use Rattle.chain_format.proofs.Loops.{Reached, reached_none, reached_more, reached_all, reached_stop}

value_1 : (bs : List ℕ) (at : ℕ) → value_at bs 1 at ≡ get_or bs at 0
unfolding value_at
value_1 bs at = omega arith

reached : (bs : List ℕ) (end at i : ℕ) → at + i ≤ end → ((k : ℕ) → k < i → get_or bs (at + k) 0 ≤ 1)
    → Reached (λ _. field (part bs end BadMark) 1 (within 0 1)) stay 0 at i 0 (at + i)
reached bs end at zero l h = rw add-zero (reached_none _ _ 0 at)
reached bs end at (suc i) l h =
    let before = reached bs end at i (omega arith) (λ k j. h k (omega arith)) in
    let right : within 0 1 (value_at bs 1 (at + i)) ≡ true = rw value_1 (grind (arith, nat_tests, h i (omega arith))) in
    let one : i + 1 ≡ suc i = omega arith in
    let to : at + i + 1 ≡ at + suc i = omega arith in
    rw (to, one) at (reached_more _ _ _ _ _ _ _ _ _ _ before (field-got (part bs end BadMark) 1 (within 0 1) (at + i) (omega arith) right) refl)

-- a mark of those that stand from a place on
pub mark_at : (bs : List ℕ) (at n k : ℕ) → k < n → get_or (take (at + n - at) (drop at bs)) k 0 ≡ get_or bs (at + k) 0
mark_at bs at n k h = get_or-take _ _ k 0 (omega arith) ∙ get_or-drop at bs k 0

pub marks-got : (bs : List ℕ) (at n : ℕ) → ((k : ℕ) → k < n → get_or bs (at + k) 0 ≤ 1)
    → (ms : List ℕ) × (marks (part bs (at + n) BadMark) n at ≡ got ms (at + n))
marks-got bs at n h = reached_all _ _ _ _ _ _ _ _ _ (reached bs (at + n) at n (omega arith) h) refl refl

pub marks_wrong : (bs : List ℕ) (at n i : ℕ) → i < n → ((k : ℕ) → k < i → get_or bs (at + k) 0 ≤ 1) → 1 < get_or bs (at + i) 0
    → marks (part bs (at + n) BadMark) n at ≡ refused (BadMark (at + i))
marks_wrong bs at n i l h w =
    let wrong : within 0 1 (value_at bs 1 (at + i)) ≡ false = rw value_1 (grind (arith, nat_tests)) in
    reached_stop _ _ _ _ _ _ _ _ _ (reached bs (at + n) at i (omega arith) h) l (field_wrong (part bs (at + n) BadMark) 1 (within 0 1) (at + i) (omega arith) wrong)
