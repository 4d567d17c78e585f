-- What stands where in the bytes of a chain's file.
use Rattle.std.proofs.Common.{◌≡◌, ℕ, zero, suc, ◌+◌, ◌*◌, ◌<◌, ◌≤◌, List, [], ◌∷◌, ◌++◌, length, get_or, ap, ◌∙◌, add-zero, arith}
use Rattle.std.specs.List.{AllByRecursion}
use Rattle.chain.specs.Chains.{Row, Meaning, Lawful}
use Rattle.chain.specs.declared.refusal.Refusal.TheVariants.{BadRow}
use Rattle.chain_format.specs.Reader.{got, Part, part, value_at, bytes_of, spell, each}
use Rattle.chain_format.specs.Format.{Version, version1, first, numbers_length, form, File, no_row, opened, meaning, Opens, file_in, chain_in, numbers_bytes, marks_bytes, row_bytes, offsets_bytes, rows_bytes, bodies_of}
use Rattle.chain_format.specs.Theorems.{Bytes}
use Rattle.chain_format.proofs.Laws.{Spelt, spelt_end, split, Each, spelt_value, length-bytes_of}
use Rattle.chain_format.proofs.RowLaws.{Roomy, Formed, form_codec}
use Rattle.chain_format.proofs.FileLaws.{Placed, rows-each}
use Rattle.chain_format.proofs.OpenLaws.{version1_roomy, Laid, moved, opened-laid, length-numbers, length-marks, length_offsets, length_joined, rows_short}
use Rattle.chain_format.proofs.TripLaws.{file_lawful, opens_got}

mark_spelt : (p : Part) (ms : List ℕ) (at i : ℕ) → Spelt p at (marks_bytes ms) → AllByRecursion (λ v. v ≤ 1) ms → i < length ms → get_or p.bytes (at + i) 0 ≡ get_or ms i 0
unfolding spell bytes_of
mark_spelt p [] at i h a l = absurd (omega arith)
mark_spelt p (m ∷ ms) at zero h a l = rw add-zero (omega (arith, h.0, a.0))
mark_spelt p (m ∷ ms) at (suc i) h a l =
    let e : at + 1 + i ≡ at + suc i = omega arith in
    rw e at (mark_spelt p ms (at + 1) i h.1 a.1 (omega arith))

row_spelt : (v : Version) (p : Part) (P : ℕ → Row → ℕ → Type 0) (rs : List Row) (s at i : ℕ) → Spelt p at (spell (each (row_bytes v)) (λ s _. s + 1) s rs)
    → Each (each (row_bytes v)) (λ s _. s + 1) P s rs at → i < length rs
    → (to : ℕ) × P (s + i) (get_or rs i no_row) to × Spelt p to (row_bytes v (get_or rs i no_row))
unfolding spell
row_spelt v p P [] s at i h e l = absurd (omega arith)
row_spelt v p P (r ∷ rs) s at zero h e l = (at, rw add-zero e.0, (split p (row_bytes v r) _ at h).0)
row_spelt v p P (r ∷ rs) s at (suc i) h e l =
    let t = row_spelt v p P rs (s + 1) (at + length (row_bytes v r)) i (split p (row_bytes v r) _ at h).1 e.1 (omega arith) in
    let q : s + 1 + i ≡ s + suc i = omega arith in
    (t.0, rw q at t.1, t.2)

-- where body 2 stands; and the row of the state s, among n states
abbrev pub marks_at : Version → ℕ
marks_at v = first v + numbers_length v

abbrev pub row_at : Version → List ℕ → ℕ → ℕ → ℕ
row_at v bs n s = marks_at v + n + 4 * n + value_at bs 4 (marks_at v + n + 4 * s)

-- what the bytes of a chain's file tell
pub record Told (v : Version) (bs : List ℕ) (c : Meaning) : Type 0 where
  pub long : marks_at v + 5 * c.states ≤ length bs
  pub states : value_at bs v.wide (first v) ≡ c.states
  pub rates : value_at bs 1 (first v + v.wide) ≡ c.rates
  pub unit : value_at bs 2 (first v + v.wide + 1) ≡ c.unit
  pub start : value_at bs v.wide (first v + v.wide + 3) ≡ c.start
  pub mark : (s : ℕ) → s < c.states → get_or bs (marks_at v + s) 0 ≡ c.mark s
  pub row : (s : ℕ) → s < c.states
      → (to : ℕ) × (row_at v bs c.states s ≤ length bs) × (form v (part bs (length bs) BadRow) c.states c.rates (row_at v bs c.states s) ≡ got (c.row s) to)
  pub lawful : Lawful c

pub laid-told : (v : Version) → Roomy v → (bs : List ℕ) → Bytes bs → (l1 l2 l3 l4 : ℕ) (f : File) → Laid v bs l1 l2 l3 l4 f
    → first v + l1 + l2 + l3 + l4 ≤ length bs → Told v bs (meaning f)
laid-told v room bs by l1 l2 l3 l4 f d inside =
    let w = part bs (length bs) BadRow in
    let k = f.numbers in
    let n = k.states in
    let l = d.lawful in
    let law = file_lawful f l in
    let few = law.states_few in
    let less = law.rates_few in
    let b1 = numbers_bytes v k in
    let b2 = marks_bytes f.marks in
    let b3 = offsets_bytes v f.rows in
    let b4 = rows_bytes v f.rows in
    let all = moved bs _ BadRow (length bs) BadRow (b1 ++ (b2 ++ (b3 ++ (b4 ++ [])))) (first v) (omega (arith, length_joined (bodies_of v f), d.len_1, d.len_2, d.len_3, d.len_4)) d.spelt in
    let t1 = split w b1 (b2 ++ (b3 ++ (b4 ++ []))) (first v) all in
    let n1 : first v + length b1 ≡ marks_at v = omega (arith, length-numbers v k) in
    let t2 = split w b2 (b3 ++ (b4 ++ [])) (marks_at v) (rw n1 at t1.1) in
    let n2 : marks_at v + length b2 ≡ marks_at v + n = omega (arith, length-marks f.marks, l.marks_many) in
    let t3 = split w b3 (b4 ++ []) (marks_at v + n) (rw n2 at t2.1) in
    let n3 : marks_at v + n + length b3 ≡ marks_at v + n + 4 * n = omega (arith, length_offsets v f.rows, l.rows_many) in
    let t4 = split w b4 [] (marks_at v + n + 4 * n) (rw n3 at t3.1) in
    let a0 = split w (bytes_of v.wide n) _ (first v) t1.0 in
    let a1 = split w (bytes_of 1 k.rates) _ _ a0.1 in
    let a2 = split w (bytes_of 2 k.unit) _ _ a1.1 in
    let p1 : first v + length (bytes_of v.wide n) ≡ first v + v.wide = ap (λ x. first v + x) (length-bytes_of v.wide n) in
    let p2 : first v + length (bytes_of v.wide n) + length (bytes_of 1 k.rates) ≡ first v + v.wide + 1 = omega (arith, p1, length-bytes_of 1 k.rates) in
    let p3 : first v + length (bytes_of v.wide n) + length (bytes_of 1 k.rates) + length (bytes_of 2 k.unit) ≡ first v + v.wide + 3 = omega (arith, p2, length-bytes_of 2 k.unit) in
    let short = rows_short v room.few n k.rates k.unit f.rows l.rows_lawful in
    let zero-on : marks_at v + n ≡ marks_at v + n + 4 * 0 = omega arith in
    let each_row = rows-each v room w by (marks_at v + n) (marks_at v + n + 4 * n) n k.rates k.unit few less f.rows 0 (marks_at v + n + 4 * n) 0 (omega arith)
    (omega (arith, short, l.rows_many)) (rw zero-on at t3.0) l.rows_lawful in
    record {
      long = omega (arith, spelt_end w b3 _ t3.0);
      states = spelt_value w v.wide n (first v) (omega (arith, room.holds)) a0.0;
      rates = spelt_value w 1 k.rates _ (omega arith) (rw p1 at a1.0);
      unit = spelt_value w 2 k.unit _ (omega (arith, law.unit_few)) (rw p2 at a2.0);
      start = spelt_value w v.wide k.start _ (omega (arith, law.starts, room.holds)) (rw p3 at a2.1);
      mark = λ s h. mark_spelt w f.marks (marks_at v) s t2.0 l.marks_lawful (omega (arith, l.marks_many));
      row = λ s h.
          let t = row_spelt v w (Placed v room w by (marks_at v + n) (marks_at v + n + 4 * n) n k.rates k.unit few less) f.rows 0 (marks_at v + n + 4 * n) s t4.0 each_row (omega (arith, l.rows_many)) in
          let r = get_or f.rows s no_row in
          let z : 0 + s ≡ s = omega arith in
          let here : row_at v bs n s ≡ t.0 = rw z at t.1.0 in
          let g = t.1.1 in
          let formed : Formed n k.rates r =
          record { rates_few = g.rates_few; rates_rise = g.rates_rise; edges_some = g.edges_some; edges_few = g.edges_few; edges_rise = g.edges_rise; edges_lawful = g.edges_lawful } in (
            t.0 + length (row_bytes v r),
            omega (arith, here, spelt_end w (row_bytes v r) t.0 t.2),
            rw here ((form_codec v room w by n k.rates few less).spells t.0 r t.2 formed),
          );
      lawful = law;
    }

-- ---- version 1
pub told : (bs : List ℕ) → Bytes bs → Opens bs → Told version1 bs (chain_in bs)
told bs by o =
    let g = opens_got (opened bs) o in
    opened-laid bs by (file_in (opened bs)) g.0 g.1 λ a b c d laid whole.
    laid-told version1 version1_roomy bs by a b c d _ laid (omega arith)

-- the row of a state, with other terms for the numbers
pub row_told : (v : Version) (bs : List ℕ) (c : Meaning) → Told v bs c → (n m x s : ℕ) → n ≡ c.states → m ≡ c.rates → x ≡ value_at bs 4 (marks_at v + n + 4 * s) → s < n
    → (to : ℕ) × (marks_at v + n + 4 * n + x ≤ length bs) × (form v (part bs (length bs) BadRow) n m (marks_at v + n + 4 * n + x) ≡ got (c.row s) to)
row_told v bs c t n m x s en em ex l =
    let h : x ≡ value_at bs 4 (marks_at v + c.states + 4 * s) = ex ∙ ap (λ k. value_at bs 4 (marks_at v + k + 4 * s)) en in
    rw (h, en, em) (t.row s (omega arith))

-- the row of a state, with other terms for the numbers and for its place
pub row-told-at : (v : Version) (bs : List ℕ) (c : Meaning) → Told v bs c → (n m at s : ℕ) → n ≡ c.states → m ≡ c.rates → at ≡ row_at v bs c.states s → s < c.states
    → (to : ℕ) × (at ≤ length bs) × (form v (part bs (length bs) BadRow) n m at ≡ got (c.row s) to)
row-told-at v bs c t n m at s en em ea l = rw (en, em, ea) (t.row s l)
