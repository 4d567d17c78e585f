-- The laws of the sinks: nothing put leaves a sink as it was, and bytes put after others are put as one.
use Rattle.std.proofs.Common.{◌≡◌, ℕ, ◌+◌, ◌-◌, ◌≤◌, List, [], ◌++◌, length, take, drop, sym, refl, ap, ◌∙◌, arith, inl, inr}
use Rattle.std.proofs.lemmas.List.{append_assoc, length-append, length-take, length-drop, take-append-drop, take-append-le, take_at}
use Rattle.std.proofs.lemmas.Slice.{drop-append-drop}
use Rattle.std.proofs.lemmas.Bool.{cases_lt}
use Rattle.std.proofs.Math.Seq.{take-append-add, take-length}
use Rattle.sink.specs.Taken.{onward, Pasted}

pub counted_none : (end at : ℕ) → at ≡ onward end at 0
counted_none end at = omega arith

pub counted_more : (end at mid next : ℕ) (xs ys : List ℕ) → mid ≡ onward end at (length xs) → next ≡ onward end mid (length ys) → next ≡ onward end at (length (xs ++ ys))
counted_more end at mid next xs ys p q = omega (arith, length-append xs ys)

pub pasted_none : (b : List ℕ) (at : ℕ) → Pasted b b at at []
pasted_none b at =
    let e : at - at ≡ 0 = omega arith in
    record { place = omega arith; bytes = rw e (sym (take-append-drop at b)) }

same_length : {b c : List ℕ} {at next : ℕ} {xs : List ℕ} → Pasted b c at next xs → length c ≡ length b
same_length {b} {c} {at} {next} {xs} p =
    omega (arith, ap length p.bytes, p.place, length-append (take at b) (take (next - at) xs ++ drop next b), length-append (take (next - at) xs) (drop next b), length-take at b, length-take (next - at) xs, length-drop next b)

-- what was put whole
whole : {b c : List ℕ} {at next : ℕ} {xs : List ℕ} → Pasted b c at next xs → next ≡ at + length xs → c ≡ (take at b ++ xs) ++ drop next b
whole {b} {c} {at} {next} {xs} p e =
    let k : next - at ≡ length xs = omega arith in
    p.bytes ∙ rw (k, take-length xs, append_assoc) refl

-- nothing more has been put
filled : {c d : List ℕ} {mid next : ℕ} {ys : List ℕ} → Pasted c d mid next ys → next ≡ mid → d ≡ c
filled {c} {d} {mid} {next} {ys} q e =
    let k : mid - mid ≡ 0 = omega arith in
    q.bytes ∙ rw (e, k) (take-append-drop mid c)

bytes_whole : {b c d : List ℕ} {at mid next : ℕ} {xs ys : List ℕ} → at ≤ length b → Pasted b c at mid xs → Pasted c d mid next ys → mid ≡ at + length xs → mid ≤ next
    → d ≡ take at b ++ (take (next - at) (xs ++ ys) ++ drop next b)
bytes_whole {b} {c} {d} {at} {mid} {next} {xs} {ys} h p q e f =
    let l : length (take at b ++ xs) ≡ mid = omega (arith, length-append (take at b) xs, length-take at b) in
    let w = whole p e in
    let front : take mid c ≡ take at b ++ xs = ap (take mid) w ∙ take_at (take at b ++ xs) (drop mid b) mid l in
    let rest : drop next c ≡ drop next b = ap (drop next) w ∙ drop-append-drop mid b (take at b ++ xs) next f l in
    let k : next - at ≡ length xs + (next - mid) = omega arith in
    q.bytes ∙ rw (front, rest, k, take-append-add xs ys (next - mid), append_assoc, append_assoc) refl

bytes_cut : {b c d : List ℕ} {at mid next : ℕ} {xs ys : List ℕ} → Pasted b c at mid xs → Pasted c d mid next ys → next ≡ mid → mid ≤ at + length xs
    → d ≡ take at b ++ (take (next - at) (xs ++ ys) ++ drop next b)
bytes_cut {b} {c} {d} {at} {mid} {next} {xs} {ys} p q e f =
    let k : mid - at ≤ length xs = omega arith in
    filled q e ∙ p.bytes ∙ rw (e, take-append-le (mid - at) xs ys k) refl

pub pasted_more : {b c d : List ℕ} {at mid next : ℕ} {xs ys : List ℕ} → at ≤ length b → Pasted b c at mid xs → Pasted c d mid next ys → Pasted b d at next (xs ++ ys)
pasted_more {b} {c} {d} {at} {mid} {next} {xs} {ys} h p q =
    let l = same_length p in
    record {
      place = omega (arith, p.place, q.place, l, length-append xs ys);
      bytes = elim (cases_lt (length b - at) (length xs)) [
        | inl full ↦ bytes_cut p q (omega (arith, p.place, q.place, l, full)) (omega (arith, p.place))
        | inr fits ↦ bytes_whole h p q (omega (arith, p.place, fits)) (omega (arith, q.place))
      ];
    }
