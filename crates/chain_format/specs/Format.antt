-- The chain file: what opening its bytes answers, and the bytes of a chain.
use Rattle.std.specs.Prelude.{◌≡◌, ℕ, zero, suc, ◌+◌, ◌*◌, ◌^◌, Bool, true, false, ◌&&◌, ◌||◌, eqb, List, [], ◌∷◌, ◌++◌, map, length, ℤ, pos, negsuc, ◌==◌, nat_le, slice_index, slice_index_or}
use Rattle.std.proofs.Common.{to_z, of_z}
use Rattle.std.specs.Int.{w16}
use Rattle.std.specs.List.{range_with_len, flat_map}
use Rattle.chain.specs.Chains.{Edge, Row, Meaning, total, due, most_states}
use Rattle.chain.specs.declared.refusal.Refusal.TheVariants.{BadContents, BadNumbers, BadMark, BadRow, BadSum}
use Rattle.chain_format.specs.Reader.{Answer, refused, got, Reader, Part, part, value_at, bytes_of, number, ◌then◌, done, mapped, tested, checked, repeat, spell, each, stay, from, within, is, field, counted}

-- what versions of the format differ in: the number of the version, how many sections a file has, and how many bytes the number of a state takes
pub record Version : Type 0 where
  pub version : ℕ
  pub sections : ℕ
  pub wide : ℕ

abbrev pub version1 : Version
version1 = record { version = 1; sections = 4; wide = 2 }

-- where the first body stands; and where the contents tell the length of body i, counted from 1
abbrev pub first : Version → ℕ
first v = 4 + 10 * v.sections

abbrev pub length_at : ℕ → ℕ
length_at i = 10 * i

-- ---- contents: the version, the number of sections, and for each section its kind, its offset and its length. The state is the kind and the offset
abbrev pub Entry : Type 0
Entry = ℕ × ℕ

abbrev pub next_entry : Entry → ℕ → Entry
next_entry s l = (s.0 + 1, s.1 + l)

abbrev pub entry : Part → Entry → Reader ℕ
entry p s = field p 2 (is s.0) then λ _. field p 4 (is s.1) then λ _. number p 4

abbrev pub contents : Version → Part → Reader (List ℕ)
contents v p = field p 2 (is v.version) then λ _. field p 2 (is v.sections) then λ _. repeat (entry p) next_entry v.sections (1, first v)

-- ---- body 1: the number of states, the number of rates, the unit and the start
pub record Numbers : Type 0 where
  pub states : ℕ
  pub rates : ℕ
  pub unit : ℕ
  pub start : ℕ

abbrev pub numbers : Version → Part → Reader Numbers
numbers v p =
    field p v.wide (within 1 most_states) then λ n. field p 1 (within 1 4) then λ m. field p 2 (within 1 1000) then λ u.
    mapped (λ s. record { states = n; rates = m; unit = u; start = s }) (field p v.wide (from 0 n))

abbrev pub numbers_length : Version → ℕ
numbers_length v = 3 + 2 * v.wide

-- ---- body 2: the marks of n states
abbrev pub marks : Part → ℕ → Reader (List ℕ)
marks p n = repeat (λ _. field p 1 (within 0 1)) stay n 0

-- ---- bodies 3 and 4: the offsets of the rows in body 4, and the rows. A row is the number of its rates, the rates, the number of its edges and the edges.
-- Rates and successors ascend: the state is the least that is allowed
abbrev pub rate : Part → ℕ → ℕ → Reader ℕ
rate p m low = field p 1 (from low m)

-- from -8000 to 8000, in two's complement
abbrev pub small : ℕ → Bool
small x = nat_le x 8000 || nat_le 57536 x

abbrev pub coefficient : Part → Reader ℤ
coefficient p = mapped (to_z w16) (field p 2 small)

abbrev pub edge : Version → Part → ℕ → ℕ → ℕ → Reader Edge
edge v p n size low =
    field p v.wide (from low n) then λ s.
    mapped (λ cs. record { successor = s; coefficients = cs }) (repeat (λ _. coefficient p) stay size 0)

-- a row of a chain of n states and m rates, but for its sums
abbrev pub form : Version → Part → ℕ → ℕ → Reader Row
form v p n m =
    counted p 1 (within 0 3) (rate p m) (λ _ r. r + 1) 0 then λ rs.
    mapped (λ es. record { rates = rs; edges = es }) (counted p 1 (within 1 8) (edge v p n (2 ^ length rs)) (λ _ e. e.successor + 1) 0)

abbrev pub eqℤ : ℤ → ℤ → Bool
eqℤ (pos a) (pos b) = a == b
eqℤ (pos a) (negsuc b) = false
eqℤ (negsuc a) (pos b) = false
eqℤ (negsuc a) (negsuc b) = a == b

-- the sums number 0 to k - 1 are what they have to be
unfoldable pub balanced : ℕ → List Edge → ℕ → Bool
balanced unit es zero = true
balanced unit es (suc i) = balanced unit es i && eqℤ (total i es) (due unit i)

-- the row of the state s, where body 3 stands at offsets and body 4 at start
abbrev pub row : Version → Part → ℕ → ℕ → ℕ → ℕ → ℕ → ℕ → Reader Row
row v p offsets start n m unit s =
    checked (BadRow (offsets + 4 * s)) (λ at. eqb (start + value_at p.bytes 4 (offsets + 4 * s)) at)
    (tested BadSum (λ r. balanced unit r.edges (2 ^ length r.rates)) (form v p n m))

abbrev pub rows : Version → Part → Numbers → Reader (List Row)
rows v p k at = repeat (row v p at (at + 4 * k.states) k.states k.rates k.unit) (λ s _. s + 1) k.states 0 (at + 4 * k.states)

-- ---- the file
pub record File : Type 0 where
  pub numbers : Numbers
  pub marks : List ℕ
  pub rows : List Row

-- from body 3 on, where body 4 ends at end; from body 2 on; from body 1 on. The lengths of the bodies are l1 to l4
abbrev pub rows_on : Version → List ℕ → ℕ → Numbers → List ℕ → Reader File
rows_on v bs end k ms =
    rows v (part bs end BadRow) k then λ rs.
    checked (BadRow (length_at 4)) (λ at. eqb at end) (done (record { numbers = k; marks = ms; rows = rs }))

abbrev pub marks_on : Version → List ℕ → ℕ → ℕ → ℕ → ℕ → Numbers → Reader File
marks_on v bs l1 l2 l3 l4 k =
    checked (BadMark (length_at 2)) (λ _. eqb l2 k.states) (marks (part bs (first v + l1 + l2) BadMark) k.states then λ ms.
    checked (BadRow (length_at 3)) (λ _. eqb l3 (4 * k.states)) (rows_on v bs (first v + l1 + l2 + l3 + l4) k ms))

abbrev pub numbers_on : Version → List ℕ → ℕ → ℕ → ℕ → ℕ → Reader File
numbers_on v bs l1 l2 l3 l4 =
    checked (BadNumbers (length_at 1)) (λ _. eqb l1 (numbers_length v))
    (numbers v (part bs (first v + l1) BadNumbers) then marks_on v bs l1 l2 l3 l4)

abbrev pub bodies : Version → List ℕ → List ℕ → Reader File
bodies v bs ls = numbers_on v bs (slice_index ls 0) (slice_index ls 1) (slice_index ls 2) (slice_index ls 3)

-- the contents, which the bodies have to fill up to the file's end; and then what is read by the bodies' lengths
abbrev pub sum : List ℕ → ℕ
sum [] = 0
sum (x ∷ xs) = x + sum xs

abbrev pub sectioned : {A : Type 0} → Version → List ℕ → (List ℕ → Reader A) → Reader A
sectioned v bs rest =
    contents v (part bs (length bs) BadContents) then λ ls.
    checked (BadContents (length_at v.sections)) (λ at. eqb (at + sum ls) (length bs)) (rest ls)

-- what opening a file of version 1 answers
unfoldable pub opened : List ℕ → Answer File
opened bs = sectioned version1 bs (bodies version1 bs) 0

abbrev pub no_row : Row
no_row = record { rates = []; edges = [] }

abbrev pub meaning : File → Meaning
meaning f = record {
  states = f.numbers.states;
  rates = f.numbers.rates;
  unit = f.numbers.unit;
  start = f.numbers.start;
  mark = λ s. slice_index f.marks s;
  row = λ s. slice_index_or f.rows s no_row;
}

-- the bytes open; and the chain that they open as
abbrev pub taken : {A : Type 0} → Answer A → Bool
taken (refused e) = false
taken (got a to) = true

abbrev pub Opens : List ℕ → Type 0
Opens bs = taken (opened bs) ≡ true

abbrev pub no_file : File
no_file = record { numbers = record { states = 0; rates = 0; unit = 0; start = 0 }; marks = []; rows = [] }

abbrev pub file_in : Answer File → File
file_in (refused e) = no_file
file_in (got f to) = f

abbrev pub chain_in : List ℕ → Meaning
chain_in bs = meaning (file_in (opened bs))

-- ---- the bytes of a chain
abbrev pub entry_bytes : Entry → ℕ → List ℕ
entry_bytes s l = bytes_of 2 s.0 ++ (bytes_of 4 s.1 ++ bytes_of 4 l)

abbrev pub contents_bytes : Version → List ℕ → List ℕ
contents_bytes v ls = bytes_of 2 v.version ++ (bytes_of 2 v.sections ++ spell entry_bytes next_entry (1, first v) ls)

abbrev pub numbers_bytes : Version → Numbers → List ℕ
numbers_bytes v k = bytes_of v.wide k.states ++ (bytes_of 1 k.rates ++ (bytes_of 2 k.unit ++ bytes_of v.wide k.start))

abbrev pub marks_bytes : List ℕ → List ℕ
marks_bytes ms = spell (each (bytes_of 1)) stay 0 ms

abbrev pub coefficient_bytes : ℤ → List ℕ
coefficient_bytes z = bytes_of 2 (of_z w16 z)

abbrev pub edge_bytes : Version → Edge → List ℕ
edge_bytes v e = bytes_of v.wide e.successor ++ spell (each coefficient_bytes) stay 0 e.coefficients

abbrev pub row_bytes : Version → Row → List ℕ
row_bytes v r =
    (bytes_of 1 (length r.rates) ++ spell (each (bytes_of 1)) (λ _ x. x + 1) 0 r.rates)
    ++ (bytes_of 1 (length r.edges) ++ spell (each (edge_bytes v)) (λ _ e. e.successor + 1) 0 r.edges)

-- the offsets of the rows: the state is the next one's
abbrev pub offsets_bytes : Version → List Row → List ℕ
offsets_bytes v rs = spell (λ at _. bytes_of 4 at) (λ at r. at + length (row_bytes v r)) 0 rs

abbrev pub rows_bytes : Version → List Row → List ℕ
rows_bytes v rs = spell (each (row_bytes v)) (λ s _. s + 1) 0 rs

abbrev pub bodies_of : Version → File → List (List ℕ)
bodies_of v f = numbers_bytes v f.numbers ∷ marks_bytes f.marks ∷ offsets_bytes v f.rows ∷ rows_bytes v f.rows ∷ []

abbrev pub assembled : Version → List (List ℕ) → List ℕ
assembled v bodies = contents_bytes v (map length bodies) ++ flat_map (λ b. b) bodies

abbrev pub file_of : Meaning → File
file_of c = record {
  numbers = record { states = c.states; rates = c.rates; unit = c.unit; start = c.start };
  marks = map c.mark (range_with_len 0 c.states);
  rows = map c.row (range_with_len 0 c.states);
}

-- the file of a chain, in version 1
abbrev pub encode : Meaning → List ℕ
encode c = assembled version1 (bodies_of version1 (file_of c))
