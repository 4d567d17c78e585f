-- The theorems of the format.
use Rattle.std.proofs.Common.{◌≡◌, ℕ, ◌<◌, ◌≤◌, true, List, map, length, get_or, sym, refl, ap, ◌∙◌, arith}
use Rattle.std.specs.List.{range_with_len, AllByRecursion}
use Rattle.std.proofs.lemmas.List.FromFn.{fill_by_all, length-map-range_with_len, get_or-map-range_with_len}
use Rattle.std.proofs.ByRecursion.{All-get_or, All-from_get_or}
use Rattle.chain.specs.Chains.{Meaning, Lawful, LawfulRow}
use Rattle.chain_format.specs.Reader.{Answer, refused, got}
use Rattle.chain_format.specs.Format.{version1, File, no_row, opened, meaning, file_of, encode, bodies_of, assembled, taken, file_in, chain_in}
use Rattle.chain_format.specs.Same.{Same}
use Rattle.chain_format.specs.Theorems.{Bytes, Right, OpensRightly, OpensExactlyFiles, ReadThenWrite, WriteThenRead}
use Rattle.chain_format.proofs.OpenLaws.{LawfulFile, file_bytes, opened_read, opened_spelt}

pub file_lawful : (f : File) → LawfulFile f → Lawful (meaning f)
file_lawful f l =
    let n = l.numbers_lawful in
    record {
      states_some = n.states_some;
      states_few = n.states_few;
      rates_some = n.rates_some;
      rates_few = n.rates_few;
      unit_some = n.unit_some;
      unit_few = n.unit_few;
      starts = n.starts;
      marks = λ s h. All-get_or (λ v. v ≤ 1) f.marks s 0 (omega (arith, l.marks_many)) l.marks_lawful;
      rows = λ s h. All-get_or (LawfulRow _ _ _) f.rows s no_row (omega (arith, l.rows_many)) l.rows_lawful;
    }

all_counted : {X : Type 0} (P : X → Type 0) (g : ℕ → X) (n : ℕ) (d : X) → ((s : ℕ) → s < n → P (g s)) → AllByRecursion P (map g (range_with_len 0 n))
all_counted P g n d h =
    All-from_get_or P _ d λ i l.
    let m : i < n = omega (arith, length-map-range_with_len g 0 n) in
    rw (get_or-map-range_with_len g 0 n i i d m (omega arith)) (h i m)

pub lawful_file : (c : Meaning) → Lawful c → LawfulFile (file_of c)
lawful_file c l =
    record {
      numbers_lawful =
          record {
            states_some = l.states_some;
            states_few = l.states_few;
            rates_some = l.rates_some;
            rates_few = l.rates_few;
            unit_some = l.unit_some;
            unit_few = l.unit_few;
            starts = l.starts;
          };
      marks_many = length-map-range_with_len c.mark 0 c.states;
      marks_lawful = all_counted (λ v. v ≤ 1) c.mark c.states 0 l.marks;
      rows_many = length-map-range_with_len c.row 0 c.states;
      rows_lawful = all_counted (LawfulRow _ _ _) c.row c.states no_row l.rows;
    }

file_of_lem : (f : File) → LawfulFile f → file_of (meaning f) ≡ f
file_of_lem f l =
    let m = fill_by_all (λ s. get_or f.marks s 0) f.marks f.numbers.states 0 l.marks_many (λ _ _. refl) in
    let r = fill_by_all (λ s. get_or f.rows s no_row) f.rows f.numbers.states no_row l.rows_many (λ _ _. refl) in
    rw (← m, ← r)

-- ---- there and back
pub opened_holds : (bs : List ℕ) → Bytes bs → (f : File) (to : ℕ) → opened bs ≡ got f to → Lawful (meaning f) × (encode (meaning f) ≡ bs) × (to ≡ length bs)
opened_holds bs by f to e =
    let x = opened_read bs by f to e in
    (file_lawful f x.1, ap (λ g. assembled version1 (bodies_of version1 g)) (file_of_lem f x.1) ∙ x.0, x.2)

pub encoded_opens : (c : Meaning) → Lawful c → opened (encode c) ≡ got (file_of c) (length (encode c))
encoded_opens c l = opened_spelt (encode c) (file_of c) (lawful_file c l) refl

pub same_file : (c : Meaning) → Same (meaning (file_of c)) c
same_file c =
    record {
      states = refl;
      rates = refl;
      unit = refl;
      start = refl;
      mark = λ s h. get_or-map-range_with_len c.mark 0 c.states s s 0 h (omega arith);
      row = λ s h. get_or-map-range_with_len c.row 0 c.states s s no_row h (omega arith);
    }

-- bytes that open, as an answer
pub opens_got : (x : Answer File) → taken x ≡ true → (to : ℕ) × (x ≡ got (file_in x) to)
opens_got (refused e) h = absurd (let z : ◌≡◌ {A = ℕ} 0 1 = cc in omega arith)
opens_got (got f to) h = (to, refl)

pub opens_rightly : OpensRightly
opens_rightly bs by = answered (opened bs) refl
  where
    answered : (x : Answer File) → opened bs ≡ x → Right bs x
    answered (got f to) e = let t = opened_holds bs by f to e in (t.0, sym t.1, t.2)
    answered (refused q) e = λ c l h.
        let o : opened bs ≡ got (file_of c) (length (encode c)) = ap opened h ∙ encoded_opens c l in
        let z : ◌≡◌ {A = ℕ} 0 1 = cc in omega arith

pub read_then_write : ReadThenWrite
read_then_write bs by o =
    let g = opens_got (opened bs) o in
    let t = opened_holds bs by (file_in (opened bs)) g.0 g.1 in
    (t.0, t.1)

pub write_then_read : WriteThenRead
write_then_read c l =
    let e = encoded_opens c l in
    (file_bytes version1 (file_of c), ap taken e, rw e (same_file c))

pub opens_exactly_files : OpensExactlyFiles
opens_exactly_files bs by = (
  λ o. let t = read_then_write bs by o in (chain_in bs, t.0, sym t.1),
  λ c l h. rw h (write_then_read c l).1,
)
