-- The contents and each body of a file are read as they are spelt.
use Rattle.std.proofs.Common.{◌≡◌, ℕ, zero, suc, ◌+◌, ◌*◌, ◌^◌, ◌<◌, ◌≤◌, List, [], ◌∷◌, length, drop, ℤ, pos, negsuc, Decides, sym, refl, ap, ◌∙◌, ⊎_elim, arith, length-append}
use Rattle.std.proofs.lemmas.Bool.{eqb-true, eq-eqb, and_parts, and_from, cases_lt}
use Rattle.std.proofs.lemmas.List.{length-drop, drop_more, drop_all}
use Rattle.std.specs.List.{AllByRecursion}
use Rattle.chain_format.specs.Reader.{Part, value_at, bytes_of, spell, stay, each, from, within, is, field}
use Rattle.chain.specs.Chains.{Edge, Row, LawfulRow, total, due, most_states}
use Rattle.chain_format.specs.Format.{Version, first, Entry, next_entry, entry, contents, Numbers, numbers, marks, eqℤ, balanced, row, entry_bytes, contents_bytes, numbers_bytes, marks_bytes, row_bytes}
use Rattle.chain_format.specs.Theorems.{Bytes}
use Rattle.chain_format.proofs.Laws.{Spelt, split, join, Codec, Each, length-bytes_of, value_spelt, spelt_value, number_codec, tested_codec, checked_codec, mapped_codec, then_codec, repeat_codec, like}
use Rattle.chain_format.proofs.RowLaws.{Roomy, from_true, within_true, true_from, field_codec, form_codec}

-- ---- sums
pub eqℤ-is : (a b : ℤ) → Decides (eqℤ a b) (a ≡ b)
eqℤ-is (pos a) (pos b) = (λ h. ap pos (eqb-true a b h), λ h. eq-eqb a b (cc))
eqℤ-is (pos a) (negsuc b) = (λ h. absurd (let z : ◌≡◌ {A = ℕ} 0 1 = cc in omega arith), λ h. absurd (let z : ◌≡◌ {A = ℕ} 0 1 = cc in omega arith))
eqℤ-is (negsuc a) (pos b) = (λ h. absurd (let z : ◌≡◌ {A = ℕ} 0 1 = cc in omega arith), λ h. absurd (let z : ◌≡◌ {A = ℕ} 0 1 = cc in omega arith))
eqℤ-is (negsuc a) (negsuc b) = (λ h. ap negsuc (eqb-true a b h), λ h. eq-eqb a b (cc))

balanced-is : (unit : ℕ) (es : List Edge) (k : ℕ) → Decides (balanced unit es k) ((i : ℕ) → i < k → total i es ≡ due unit i)
unfolding balanced
balanced-is unit es zero = (λ h i l. absurd (omega arith), λ h. refl)
balanced-is unit es (suc k) = (
  λ h i l.
      let t = and_parts (balanced unit es k) _ h in
      ⊎_elim (λ below. (balanced-is unit es k).0 t.0 i below)
      (λ above. let e : i ≡ k = omega arith in rw e ((eqℤ-is (total k es) (due unit k)).0 t.1)) (cases_lt i k),
  λ h. and_from _ _ ((balanced-is unit es k).1 (λ i l. h i (omega arith))) ((eqℤ-is (total k es) (due unit k)).1 (h k (omega arith))),
)

-- ---- a row with its offset
module _ (v : Version) (room : Roomy v) (p : Part) (b : Bytes p.bytes) (offsets start n m unit : ℕ) (few : n ≤ most_states) (less : m ≤ 4) where
  abbrev pub Placed : ℕ → Row → ℕ → Type 0
  Placed s r at = (start + value_at p.bytes 4 (offsets + 4 * s) ≡ at) × LawfulRow n m unit r

  pub row_codec : (s : ℕ) → Codec p (row v p offsets start n m unit s) (row_bytes v) (Placed s)
  row_codec s =
      like p (checked_codec p _ _ (tested_codec p _ _ (form_codec v room p b n m few less)))
      (λ r at h. let f = h.1.1 in (
        eqb-true _ _ h.0,
        record {
          rates_few = f.rates_few;
          rates_rise = f.rates_rise;
          edges_some = f.edges_some;
          edges_few = f.edges_few;
          edges_rise = f.edges_rise;
          edges_lawful = f.edges_lawful;
          sums = (balanced-is unit r.edges _).0 h.1.0;
        },
      ))
      (λ r at h. let f = h.1 in (
        eq-eqb _ _ h.0,
        (
          (balanced-is unit r.edges _).1 f.sums,
          record {
            rates_few = f.rates_few;
            rates_rise = f.rates_rise;
            edges_some = f.edges_some;
            edges_few = f.edges_few;
            edges_rise = f.edges_rise;
            edges_lawful = f.edges_lawful;
          },
        ),
      ))

  abbrev pub offsets_from : ℕ → List Row → List ℕ
  offsets_from off rs = spell (λ at _. bytes_of 4 at) (λ at r. at + length (row_bytes v r)) off rs

  abbrev pub rows_from : ℕ → List Row → List ℕ
  rows_from s rs = spell (each (row_bytes v)) (λ s _. s + 1) s rs

  pub each_rows : (rs : List Row) (s at off : ℕ) → start + off ≡ at → offsets + 4 * (s + length rs) ≤ p.end
      → Each (each (row_bytes v)) (λ s _. s + 1) Placed s rs at → Spelt p (offsets + 4 * s) (offsets_from off rs) × AllByRecursion (LawfulRow n m unit) rs
  unfolding spell
  each_rows [] s at off e l h = (omega arith, tt)
  each_rows (r ∷ rs) s at off e l h =
      let t = each_rows rs (s + 1) (at + length (row_bytes v r)) (off + length (row_bytes v r)) (omega arith) (omega arith) h.1 in
      let off-is : value_at p.bytes 4 (offsets + 4 * s) ≡ off = omega (arith, h.0.0) in
      let q : offsets + 4 * (s + 1) ≡ offsets + 4 * s + length (bytes_of 4 off) = omega (arith, length-bytes_of 4 off) in (
        join p (bytes_of 4 off) _ _ (rw off-is at (value_spelt p b 4 (offsets + 4 * s) (omega arith))) (rw q at t.0),
        (h.0.1, t.1),
      )

  pub rows-each : (rs : List Row) (s at off : ℕ) → start + off ≡ at → off + length (rows_from s rs) < 256 ^ 4
      → Spelt p (offsets + 4 * s) (offsets_from off rs) → AllByRecursion (LawfulRow n m unit) rs → Each (each (row_bytes v)) (λ s _. s + 1) Placed s rs at
  unfolding spell
  rows-each [] s at off e l h a = tt
  rows-each (r ∷ rs) s at off e l h a =
      let t = split p (bytes_of 4 off) _ (offsets + 4 * s) h in
      let k = length-append (row_bytes v r) (rows_from (s + 1) rs) in
      let q : offsets + 4 * s + length (bytes_of 4 off) ≡ offsets + 4 * (s + 1) = omega (arith, length-bytes_of 4 off) in
      let off-is : value_at p.bytes 4 (offsets + 4 * s) ≡ off = spelt_value p 4 off _ (omega (arith, k)) t.0 in (
        (omega (arith, off-is), a.0),
        rows-each rs (s + 1) _ (off + length (row_bytes v r)) (omega arith) (omega (arith, k)) (rw q at t.1) a.1,
      )

-- ---- contents
is_codec : (p : Part) → Bytes p.bytes → (w x : ℕ) → Codec p (field p w (is x)) (bytes_of w) (λ v _. (x ≡ v) × (v < 256 ^ w))
is_codec p b w x = field_codec p b w (is x) _ (λ v h e. (let t = within_true x x v e in omega arith, h)) (λ v t. (true_from x (x + 1) v (omega arith) (omega arith), t.1))

abbrev pub Small : Entry → ℕ → ℕ → Type 0
Small s l _ = (s.0 < 65536) × (s.1 < 256 ^ 4) × (l < 256 ^ 4)

entry_codec : (p : Part) → Bytes p.bytes → (s : Entry) → Codec p (entry p s) (entry_bytes s) (Small s)
entry_codec p b s =
    like p
    (then_codec p (λ _. s.0) (is_codec p b 2 s.0)
    (λ _. then_codec p (λ _. s.1) (is_codec p b 4 s.1) (λ _. number_codec p b 4) (λ a l at mid h t. h.0)) (λ a l at mid h t. h.0))
    (λ l at h. (h.0.1, h.1.0.1, h.1.1))
    (λ l at h. ((refl, h.0), ((refl, h.1), h.2)))

anywhere : (s : Entry) (ls : List ℕ) (at to : ℕ) → Each entry_bytes next_entry Small s ls at → Each entry_bytes next_entry Small s ls to
anywhere s [] at to h = tt
anywhere s (l ∷ ls) at to h = (h.0, anywhere (next_entry s l) ls _ _ h.1)

pub contents_codec : (v : Version) → Roomy v → (p : Part) → Bytes p.bytes
    → Codec p (contents v p) (contents_bytes v) (λ ls _. (length ls ≡ v.sections) × Each entry_bytes next_entry Small (1, first v) ls 0)
contents_codec v room p b =
    like p
    (then_codec p (λ _. v.version) (is_codec p b 2 v.version)
    (λ _. then_codec p (λ _. v.sections) (is_codec p b 2 v.sections) (λ _. repeat_codec p next_entry (entry_codec p b) v.sections (1, first v)) (λ a l at mid h t. h.0)) (λ a l at mid h t. h.0))
    (λ ls at h. (h.1.1.0, anywhere _ ls _ _ h.1.1.1))
    (λ ls at h. ((refl, omega arith), ((refl, omega arith), (h.0, anywhere _ ls _ _ h.1))))

-- ---- numbers and marks
pub record LawfulNumbers (k : Numbers) : Type 0 where
  pub states_some : 1 ≤ k.states
  pub states_few : k.states ≤ most_states
  pub rates_some : 1 ≤ k.rates
  pub rates_few : k.rates ≤ 4
  pub unit_some : 1 ≤ k.unit
  pub unit_few : k.unit ≤ 1000
  pub starts : k.start < k.states

pub within_codec : (p : Part) → Bytes p.bytes → (w low high : ℕ) → high < 256 ^ w → Codec p (field p w (within low high)) (bytes_of w) (λ v _. (low ≤ v) × (v ≤ high))
within_codec p b w low high h = field_codec p b w (within low high) _ (λ v _ e. within_true low high v e) (λ v t. (true_from low (high + 1) v t.0 (omega arith), omega arith))

pub numbers_codec : (v : Version) → Roomy v → (p : Part) → Bytes p.bytes → Codec p (numbers v p) (numbers_bytes v) (λ k _. LawfulNumbers k)
numbers_codec v room p b =
    like p
    (then_codec p (λ k. k.states) (within_codec p b v.wide 1 most_states room.holds) (λ n.
    then_codec p (λ k. k.rates) (within_codec p b 1 1 4 (omega arith)) (λ m.
    then_codec p (λ k. k.unit) (within_codec p b 2 1 1000 (omega arith)) (λ u.
    mapped_codec p (λ s. record { states = n; rates = m; unit = u; start = s }) (λ k. k.start)
    (field_codec p b v.wide (from 0 n) (λ s. (s < n) × (s < 256 ^ v.wide)) (λ s l e. ((from_true 0 n s e).1, l)) (λ s t. (true_from 0 n s (omega arith) t.0, t.1))) (λ _ _ _. refl))
    (λ _ k _ _ _ t. sym (ap (λ (x : Numbers). x.unit) t.0)))
    (λ _ k _ _ _ t. sym (ap (λ (x : Numbers). x.rates) t.1.0)))
    (λ _ k _ _ _ t. sym (ap (λ (x : Numbers). x.states) t.1.1.0)))
    (λ k at h. record {
      states_some = h.0.0;
      states_few = h.0.1;
      rates_some = h.1.0.0;
      rates_few = h.1.0.1;
      unit_some = h.1.1.0.0;
      unit_few = h.1.1.0.1;
      starts = h.1.1.1.1.0;
    })
    (λ k at h. ((h.states_some, h.states_few), ((h.rates_some, h.rates_few), ((h.unit_some, h.unit_few), (refl, (h.starts, omega arith))))))

pub marks_codec : (p : Part) → Bytes p.bytes → (n : ℕ) → Codec p (marks p n) marks_bytes (λ ms _. (length ms ≡ n) × AllByRecursion (λ v. v ≤ 1) ms)
marks_codec p b n = like p (repeat_codec p stay (λ _. within_codec p b 1 0 1 (omega arith)) n 0)
    (λ ms at h. (h.0, to ms _ h.1)) (λ ms at h. (h.0, back ms _ h.1))
  where
    to : (ms : List ℕ) (at : ℕ) → Each (each (bytes_of 1)) stay (λ _ v _. (0 ≤ v) × (v ≤ 1)) 0 ms at → AllByRecursion (λ v. v ≤ 1) ms
    to [] at h = tt
    to (v ∷ ms) at h = (h.0.1, to ms _ h.1)

    back : (ms : List ℕ) (at : ℕ) → AllByRecursion (λ v. v ≤ 1) ms → Each (each (bytes_of 1)) stay (λ _ v _. (0 ≤ v) × (v ≤ 1)) 0 ms at
    back [] at h = tt
    back (v ∷ ms) at h = ((omega arith, h.0), back ms _ h.1)

-- ---- the bytes of a file as a part of it
pub all_spelt : (p : Part) → p.end ≡ length p.bytes → (xs : List ℕ) (at : ℕ) → at ≤ p.end → drop at p.bytes ≡ xs → Spelt p at xs
all_spelt p e [] at l h = l
all_spelt p e (x ∷ xs) at l h =
    let some : at < length p.bytes = omega (arith, length-drop at p.bytes, ap length h) in
    let m = drop_more p.bytes at 0 some in
    (cc, all_spelt p e xs (at + 1) (omega arith) (cc))

pub spelt_all : (p : Part) → p.end ≡ length p.bytes → (xs : List ℕ) (at : ℕ) → at + length xs ≡ p.end → Spelt p at xs → drop at p.bytes ≡ xs
spelt_all p e [] at l h = drop_all at p.bytes (omega arith)
spelt_all p e (x ∷ xs) at l h =
    let some : at < length p.bytes = omega arith in
    let m = drop_more p.bytes at 0 some in
    let t = spelt_all p e xs (at + 1) (omega arith) h.1 in
    m ∙ rw (h.0, t)
