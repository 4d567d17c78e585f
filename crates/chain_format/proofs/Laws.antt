-- Each reader reads what its writer spells: one law for each word of Reader.
use Rattle.std.proofs.Common.{◌≡◌, ℕ, zero, suc, ◌+◌, ◌*◌, ◌/◌, ◌%◌, ◌^◌, ◌<◌, ◌≤◌, Bool, true, false, cond, leb, List, [], ◌∷◌, ◌++◌, length, get_or, sym, refl, ap, ◌∙◌, add-zero, add_assoc, arith, length-append}
use Rattle.std.proofs.lemmas.Bool.{leb-true, le-leb}
use Rattle.chain.specs.declared.refusal.Refusal.{Refusal}
use Rattle.chain_format.specs.Theorems.{Bytes}
use Rattle.chain_format.specs.Reader.{Answer, refused, got, Reader, Part, value_at, bytes_of, number, after, ◌then◌, mapped, tested, checked, repeat, spell}

-- the bytes from a place on are these, inside the part
abbrev pub Spelt : Part → ℕ → List ℕ → Type 0
Spelt p at [] = at ≤ p.end
Spelt p at (x ∷ xs) = (get_or p.bytes at 0 ≡ x) × Spelt p (at + 1) xs

pub spelt_end : (p : Part) (xs : List ℕ) (at : ℕ) → Spelt p at xs → at + length xs ≤ p.end
spelt_end p [] at h = omega arith
spelt_end p (x ∷ xs) at h = omega (arith, spelt_end p xs (at + 1) h.1)

pub split : (p : Part) (xs ys : List ℕ) (at : ℕ) → Spelt p at (xs ++ ys) → Spelt p at xs × Spelt p (at + length xs) ys
split p [] ys at h = (omega (arith, spelt_end p ys at h), rw add-zero h)
split p (x ∷ xs) ys at h =
    let e : at + 1 + length xs ≡ at + suc (length xs) = omega arith in
    let s = split p xs ys (at + 1) h.1 in
    ((h.0, s.0), rw e at s.1)

pub join : (p : Part) (xs ys : List ℕ) (at : ℕ) → Spelt p at xs → Spelt p (at + length xs) ys → Spelt p at (xs ++ ys)
join p [] ys at h t = rw add-zero at t
join p (x ∷ xs) ys at h t =
    let e : at + suc (length xs) ≡ at + 1 + length xs = omega arith in
    (h.0, join p xs ys (at + 1) h.1 (rw e at t))

pub record Codec (p : Part) {A : Type 0} (r : Reader A) (w : A → List ℕ) (Ok : A → ℕ → Type 0) : Type 0 where
  pub reads : (at to : ℕ) (a : A) → at ≤ p.end → r at ≡ got a to → Spelt p at (w a) × (to ≡ at + length (w a)) × Ok a at
  pub spells : (at : ℕ) (a : A) → Spelt p at (w a) → Ok a at → r at ≡ got a (at + length (w a))

-- ---- what an answer came from
pub by_after : {P A B : Type 0} (x : Answer A) {f : A → Reader B} {b : B} {to : ℕ} → after x f ≡ got b to
    → ((a : A) (mid : ℕ) → x ≡ got a mid → f a mid ≡ got b to → P) → P
unfolding after
by_after (refused q) e h = absurd (let z : ◌≡◌ {A = ℕ} 0 1 = cc in omega arith)
by_after (got a mid) e h = h a mid refl e

pub cond_got : {A : Type 0} (t : Bool) (x : Answer A) (q : Refusal) (a : A) (to : ℕ) → cond t x (refused q) ≡ got a to → (t ≡ true) × (x ≡ got a to)
cond_got true x q a to e = (refl, e)
cond_got false x q a to e = absurd (let z : ◌≡◌ {A = ℕ} 0 1 = cc in omega arith)

pub got_same : {A : Type 0} (a b : A) (m n : ℕ) → got a m ≡ got b n → (a ≡ b) × (m ≡ n)
got_same a b m n e = (cc, cc)

-- ---- numbers
pub length-bytes_of : (w v : ℕ) → length (bytes_of w v) ≡ w
unfolding bytes_of
length-bytes_of zero v = refl
length-bytes_of (suc w) v = ap suc (length-bytes_of w (v / 256))

pub value_under : (p : Part) → Bytes p.bytes → (w at : ℕ) → value_at p.bytes w at < 256 ^ w
unfolding value_at
value_under p b zero at = omega arith
value_under p b (suc w) at = omega (arith, b at, value_under p b w (at + 1))

pub value_spelt : (p : Part) → Bytes p.bytes → (w at : ℕ) → at + w ≤ p.end → Spelt p at (bytes_of w (value_at p.bytes w at))
unfolding value_at bytes_of
value_spelt p b zero at h = omega arith
value_spelt p b (suc w) at h =
    let x : get_or p.bytes at 0 ≡ (get_or p.bytes at 0 + 256 * value_at p.bytes w (at + 1)) % 256 = omega (arith, b at) in
    let y : (get_or p.bytes at 0 + 256 * value_at p.bytes w (at + 1)) / 256 ≡ value_at p.bytes w (at + 1) = omega (arith, b at) in
    (x, rw y (value_spelt p b w (at + 1) (omega arith)))

pub spelt_value : (p : Part) (w v at : ℕ) → v < 256 ^ w → Spelt p at (bytes_of w v) → value_at p.bytes w at ≡ v
unfolding value_at bytes_of
spelt_value p zero v at h s = omega arith
spelt_value p (suc w) v at h s =
    omega (arith, s.0, spelt_value p w (v / 256) (at + 1) (omega arith) s.1)

pub number_codec : (p : Part) → Bytes p.bytes → (w : ℕ) → Codec p (number p w) (bytes_of w) (λ v _. v < 256 ^ w)
unfolding number
number_codec p b w = record { reads = reads; spells = spells }
  where
    reads : (at to v : ℕ) → at ≤ p.end → cond (leb (at + w) p.end) (got (value_at p.bytes w at) (at + w)) (refused (p.fault p.end)) ≡ got v to
        → Spelt p at (bytes_of w v) × (to ≡ at + length (bytes_of w v)) × (v < 256 ^ w)
    reads at to v l e =
        let t = cond_got (leb (at + w) p.end) _ _ v to e in
        let s = got_same _ _ _ _ t.1 in
        let in-part : at + w ≤ p.end = leb-true _ _ t.0 in
        (rw (← s.0) (value_spelt p b w at in-part), rw length-bytes_of (sym s.1), rw (← s.0) (value_under p b w at))

    spells : (at v : ℕ) → Spelt p at (bytes_of w v) → v < 256 ^ w
        → cond (leb (at + w) p.end) (got (value_at p.bytes w at) (at + w)) (refused (p.fault p.end)) ≡ got v (at + length (bytes_of w v))
    spells at v s h =
        let n = length-bytes_of w v in
        let t : leb (at + w) p.end ≡ true = le-leb _ _ (omega (arith, spelt_end p (bytes_of w v) at s)) in
        let e : value_at p.bytes w at ≡ v = spelt_value p w v at h s in
        rw (t, e, n)

-- ---- one law for each way to make a reader
pub then_codec : (p : Part) {A B : Type 0} {r : Reader A} {w : A → List ℕ} {Ok : A → ℕ → Type 0}
    {f : A → Reader B} {v : A → B → List ℕ} {Fine : A → B → ℕ → Type 0} (first : B → A)
    → Codec p r w Ok → ((a : A) → Codec p (f a) (v a) (Fine a))
    → ((a : A) (b : B) (at mid : ℕ) → Ok a at → Fine a b mid → first b ≡ a)
    → Codec p (r then f) (λ b. w (first b) ++ v (first b) b) (λ b at. Ok (first b) at × Fine (first b) b (at + length (w (first b))))
unfolding ◌then◌ after
then_codec p {A = A} {B = B} {r = r} {w = w} {Ok = Ok} {f = f} {v = v} {Fine = Fine} first c d same = record { reads = reads; spells = spells }
  where
    reads : (at to : ℕ) (b : B) → at ≤ p.end → after (r at) f ≡ got b to
        → Spelt p at (w (first b) ++ v (first b) b) × (to ≡ at + length (w (first b) ++ v (first b) b)) × (Ok (first b) at × Fine (first b) b (at + length (w (first b))))
    reads at to b l e =
        by_after (r at) e λ a mid g h.
        let x = c.reads at mid a l g in
        let y = (d a).reads mid to b (omega (arith, x.1, spelt_end p (w a) at x.0)) h in
        let s : first b ≡ a = same a b at mid x.2 y.2 in
        rw (s, ← x.1)
        (join p (w a) (v a b) at x.0 (rw x.1 at y.0), simp length-append (omega (arith, x.1, y.1)), (x.2, y.2))

    spells : (at : ℕ) (b : B) → Spelt p at (w (first b) ++ v (first b) b) → Ok (first b) at × Fine (first b) b (at + length (w (first b)))
        → after (r at) f ≡ got b (at + length (w (first b) ++ v (first b) b))
    spells at b s h =
        let t = split p (w (first b)) (v (first b) b) at s in
        rw (c.spells at (first b) t.0 h.0, (d (first b)).spells _ b t.1 h.1, length-append, add_assoc)

pub mapped_codec : (p : Part) {A B : Type 0} {r : Reader A} {w : A → List ℕ} {Ok : A → ℕ → Type 0} (g : A → B) (back : B → A)
    → Codec p r w Ok → ((a : A) (at : ℕ) → Ok a at → back (g a) ≡ a)
    → Codec p (mapped g r) (λ b. w (back b)) (λ b at. (g (back b) ≡ b) × Ok (back b) at)
unfolding mapped after
mapped_codec p {A = A} {B = B} {r = r} {w = w} {Ok = Ok} g back c same = record { reads = reads; spells = spells }
  where
    reads : (at to : ℕ) (b : B) → at ≤ p.end → after (r at) (λ a to. got (g a) to) ≡ got b to
        → Spelt p at (w (back b)) × (to ≡ at + length (w (back b))) × ((g (back b) ≡ b) × Ok (back b) at)
    reads at to b l e =
        by_after (r at) e λ a mid k h.
        let q = got_same _ _ _ _ h in
        let x = c.reads at mid a l k in
        let s : back b ≡ a = ap back (sym q.0) ∙ same a at x.2 in
        rw s (x.0, sym q.1 ∙ x.1, (q.0, x.2))

    spells : (at : ℕ) (b : B) → Spelt p at (w (back b)) → (g (back b) ≡ b) × Ok (back b) at
        → after (r at) (λ a to. got (g a) to) ≡ got b (at + length (w (back b)))
    spells at b s h = rw (c.spells at (back b) s h.1, h.0)

pub tested_codec : (p : Part) {A : Type 0} {r : Reader A} {w : A → List ℕ} {Ok : A → ℕ → Type 0} (fault : ℕ → Refusal) (ok : A → Bool)
    → Codec p r w Ok → Codec p (tested fault ok r) w (λ a at. (ok a ≡ true) × Ok a at)
unfolding tested after
tested_codec p {A = A} {r = r} {w = w} {Ok = Ok} fault ok c = record { reads = reads; spells = spells }
  where
    reads : (at to : ℕ) (b : A) → at ≤ p.end → after (r at) (λ a to. cond (ok a) (got a to) (refused (fault at))) ≡ got b to
        → Spelt p at (w b) × (to ≡ at + length (w b)) × ((ok b ≡ true) × Ok b at)
    reads at to b l e =
        by_after (r at) e λ a mid k h.
        let u = cond_got (ok a) _ _ b to h in
        let q = got_same _ _ _ _ u.1 in
        let x = c.reads at mid a l k in
        rw (← q.0, ← q.1) (x.0, x.1, (u.0, x.2))

    spells : (at : ℕ) (b : A) → Spelt p at (w b) → (ok b ≡ true) × Ok b at
        → after (r at) (λ a to. cond (ok a) (got a to) (refused (fault at))) ≡ got b (at + length (w b))
    spells at b s h = rw (c.spells at b s h.1, h.0)

pub checked_codec : (p : Part) {A : Type 0} {r : Reader A} {w : A → List ℕ} {Ok : A → ℕ → Type 0} (stop : Refusal) (ok : ℕ → Bool)
    → Codec p r w Ok → Codec p (checked stop ok r) w (λ a at. (ok at ≡ true) × Ok a at)
unfolding checked
checked_codec p {A = A} {r = r} {w = w} {Ok = Ok} stop ok c = record { reads = reads; spells = spells }
  where
    reads : (at to : ℕ) (b : A) → at ≤ p.end → cond (ok at) (r at) (refused stop) ≡ got b to
        → Spelt p at (w b) × (to ≡ at + length (w b)) × ((ok at ≡ true) × Ok b at)
    reads at to b l e =
        let u = cond_got (ok at) _ _ b to e in
        let x = c.reads at to b l u.1 in
        (x.0, x.1, (u.0, x.2))

    spells : (at : ℕ) (b : A) → Spelt p at (w b) → (ok at ≡ true) × Ok b at
        → cond (ok at) (r at) (refused stop) ≡ got b (at + length (w b))
    spells at b s h = rw h.0 (c.spells at b s h.1)

-- what holds of each of the values that are read in turn
abbrev pub Each : {S A : Type 0} → (S → A → List ℕ) → (S → A → S) → (S → A → ℕ → Type 0) → S → List A → ℕ → Type 0
Each w next Ok s [] at = Unit {0}
Each w next Ok s (a ∷ more) at = Ok s a at × Each w next Ok (next s a) more (at + length (w s a))

repeat_reads : (p : Part) {S A : Type 0} {r : S → Reader A} {w : S → A → List ℕ} {Ok : S → A → ℕ → Type 0} (next : S → A → S)
    → ((s : S) → Codec p (r s) (w s) (Ok s)) → (k : ℕ) (s : S) (at to : ℕ) (xs : List A) → at ≤ p.end → repeat r next k s at ≡ got xs to
    → Spelt p at (spell w next s xs) × (to ≡ at + length (spell w next s xs)) × ((length xs ≡ k) × Each w next Ok s xs at)
unfolding repeat spell
repeat_reads p next c zero s at to xs l e = let q = got_same _ _ _ _ e in rw (← q.0, ← q.1) (l, rw add-zero refl, (refl, tt))
repeat_reads p {r = r} {w = w} next c (suc k) s at to xs l e =
    by_after (r s at) e λ a mid g h.
    by_after (repeat r next k (next s a) mid) h λ more end i j.
    let x = (c s).reads at mid a l g in
    let y = repeat_reads p next c k (next s a) mid end more (omega (arith, x.1, spelt_end p (w s a) at x.0)) i in
    let q = got_same _ _ _ _ j in
    rw (← q.0, ← q.1, ← x.1) (
      join p (w s a) _ at x.0 (rw x.1 at y.0),
      simp length-append (omega (arith, x.1, y.1)),
      (ap suc y.2.0, (x.2, y.2.1)),
    )

repeat_spells : (p : Part) {S A : Type 0} {r : S → Reader A} {w : S → A → List ℕ} {Ok : S → A → ℕ → Type 0} (next : S → A → S)
    → ((s : S) → Codec p (r s) (w s) (Ok s)) → (k : ℕ) (s : S) (at : ℕ) (xs : List A)
    → Spelt p at (spell w next s xs) → length xs ≡ k → Each w next Ok s xs at
    → repeat r next k s at ≡ got xs (at + length (spell w next s xs))
unfolding repeat spell after
repeat_spells p next c zero s at [] t n h = rw add-zero refl
repeat_spells p next c zero s at (x ∷ xs) t n h = absurd (omega arith)
repeat_spells p next c (suc k) s at [] t n h = absurd (omega arith)
repeat_spells p {w = w} next c (suc k) s at (x ∷ xs) t n h =
    let u = split p (w s x) (spell w next (next s x) xs) at t in
    rw ((c s).spells at x u.0 h.0, repeat_spells p next c k (next s x) _ xs u.1 (omega arith) h.1, length-append, add_assoc)

pub repeat_codec : (p : Part) {S A : Type 0} {r : S → Reader A} {w : S → A → List ℕ} {Ok : S → A → ℕ → Type 0} (next : S → A → S)
    → ((s : S) → Codec p (r s) (w s) (Ok s)) → (k : ℕ) (s : S)
    → Codec p (repeat r next k s) (spell w next s) (λ xs at. (length xs ≡ k) × Each w next Ok s xs at)
repeat_codec p next c k s =
    record { reads = repeat_reads p next c k s; spells = λ at xs t h. repeat_spells p next c k s at xs t h.0 h.1 }

-- the same law with other words for what holds
pub like : (p : Part) {A : Type 0} {r : Reader A} {w : A → List ℕ} {Ok Fine : A → ℕ → Type 0}
    → Codec p r w Ok → ((a : A) (at : ℕ) → Ok a at → Fine a at) → ((a : A) (at : ℕ) → Fine a at → Ok a at) → Codec p r w Fine
like p c f g =
    record {
      reads = λ at to a l e. let x = c.reads at to a l e in (x.0, x.1, f a at x.2);
      spells = λ at a s h. c.spells at a s (g a at h);
    }
