-- The bytes of a file, in the order in which they are written.
use Rattle.std.proofs.Common.{◌≡◌, ℕ, zero, suc, ◌+◌, ◌-◌, ◌*◌, ◌/◌, ◌%◌, ◌^◌, ◌<◌, ◌≤◌, List, [], ◌∷◌, ◌++◌, map, length, get_or, take, drop, sym, refl, ap, ◌∙◌, zero-add, mul-suc, arith, length-append}
use Rattle.std.specs.List.{range_with_len, flat_map, AllByRecursion}
use Rattle.std.proofs.lemmas.List.FromFn.{map-range_with_len_more, length-map-range_with_len}
use Rattle.std.proofs.lemmas.List.{append_assoc, append-nil, take_all}
use Rattle.chain.specs.Chains.{Edge, Row, Meaning, LawfulEdge, LawfulRow}
use Rattle.chain_format.specs.Reader.{bytes_of, spell, each, stay}
use Rattle.chain_format.specs.Format.{Version, version1, entry_bytes, contents_bytes, numbers_bytes, marks_bytes, edge_bytes, row_bytes, offsets_bytes, rows_bytes, bodies_of, file_of, encode}
use Rattle.chain_format.proofs.Laws.{length-bytes_of}
use Rattle.chain_format.proofs.OpenLaws.{length-spell, edge-length, length-numbers, length-marks, length_offsets, length-assembled}

-- ---- a number, byte by byte
pub bytes_of_none : (x : ℕ) → bytes_of 0 x ≡ []
unfolding bytes_of
bytes_of_none x = refl

pub bytes_of_more : (w x : ℕ) → 0 < w → bytes_of w x ≡ x % 256 ∷ bytes_of (w - 1) (x / 256)
unfolding bytes_of
bytes_of_more zero x h = absurd (omega arith)
bytes_of_more (suc w) x h = let e : suc w - 1 ≡ w = omega arith in rw e

-- ---- values one by one: from the last, and from the first
pub spell_none : {S A : Type 0} (w : S → A → List ℕ) (next : S → A → S) (s : S) → spell w next s [] ≡ []
unfolding spell
spell_none w next s = refl

pub spell_push : {A : Type 0} (w : A → List ℕ) (next : ℕ → A → ℕ) (s : ℕ) (xs : List A) (y : A) → spell (each w) next s (xs ++ y ∷ []) ≡ spell (each w) next s xs ++ w y
unfolding spell
spell_push w next s [] y = append-nil (w y)
spell_push w next s (x ∷ xs) y = ap (λ t. w x ++ t) (spell_push w next (next s x) xs y) ∙ sym (append_assoc (w x) _ (w y))

pub spell-first : {A : Type 0} (w : A → List ℕ) (xs : List A) (d : A) → 0 < length xs
    → spell (each w) stay 0 xs ≡ w (get_or xs 0 d) ++ spell (each w) stay 0 (take (length xs - 1) (drop 1 xs))
unfolding spell
spell-first w [] d h = absurd (omega arith)
spell-first w (x ∷ xs) d h = ap (λ t. w x ++ spell (each w) stay 0 t) (sym (take_all (suc (length xs) - 1) xs (omega arith)))

pub spell_empty : {A : Type 0} (w : A → List ℕ) (xs : List A) → length xs ≡ 0 → spell (each w) stay 0 xs ≡ []
unfolding spell
spell_empty w [] h = refl
spell_empty w (x ∷ xs) h = absurd (omega arith)

-- the state does not matter where the bytes do not depend on it
pub spell-each : {A : Type 0} (w : A → List ℕ) (f g : ℕ → A → ℕ) (s t : ℕ) (xs : List A) → spell (each w) f s xs ≡ spell (each w) g t xs
unfolding spell
spell-each w f g s t [] = refl
spell-each w f g s t (x ∷ xs) = ap (λ r. w x ++ r) (spell-each w f g (f s x) (g t x) xs)

pub counted_push : {A : Type 0} (w : A → List ℕ) (next : ℕ → A → ℕ) (f : ℕ → A) (i : ℕ)
    → spell (each w) next 0 (map f (range_with_len 0 (i + 1))) ≡ spell (each w) next 0 (map f (range_with_len 0 i)) ++ w (f i)
counted_push w next f i = ap (spell (each w) next 0) (map-range_with_len_more f 0 i i (omega arith)) ∙ spell_push w next 0 _ (f i)

pub length-counted : {A : Type 0} (w : A → List ℕ) (next : ℕ → A → ℕ) (f : ℕ → A) (k i : ℕ) → ((a : A) → length (w a) ≡ k)
    → length (spell (each w) next 0 (map f (range_with_len 0 i))) ≡ k * i
length-counted w next f k i h = length-spell (each w) next k (λ _ a. h a) 0 _ ∙ ap (λ n. k * n) (length-map-range_with_len f 0 i)

-- ---- the length of a row
edges_length : (v : Version) (size : ℕ) (f : ℕ → Edge → ℕ) (s : ℕ) (es : List Edge) → AllByRecursion (LawfulEdge size) es
    → length (spell (each (edge_bytes v)) f s es) ≡ (v.wide + 2 * size) * length es
unfolding spell
edges_length v size f s [] a = omega arith
edges_length v size f s (e ∷ es) a =
    length-append (edge_bytes v e) _ ∙ omega (arith, edge-length v size e a.0, edges_length v size f (f s e) es a.1, mul-suc (v.wide + 2 * size) (length es))

pub row-length : (v : Version) (n m unit : ℕ) (r : Row) → LawfulRow n m unit r
    → length (row_bytes v r) ≡ 2 + length r.rates + (v.wide + 2 * 2 ^ length r.rates) * length r.edges
row-length v n m unit r l =
    let a = edges_length v (2 ^ length r.rates) (λ _ e. e.successor + 1) 0 r.edges l.edges_lawful in
    let b = length-spell (each (bytes_of 1)) (λ _ x. x + 1) 1 (λ _ x. length-bytes_of 1 x) 0 r.rates in
    let c : length (row_bytes v r) ≡ (1 + length (spell (each (bytes_of 1)) (λ _ x. x + 1) 0 r.rates)) + (1 + length (spell (each (edge_bytes v)) (λ _ e. e.successor + 1) 0 r.edges)) = simp (length-append, length-bytes_of) in
    omega arith

-- ---- the rows and the offsets of the states below i
abbrev pub rows_to : Version → Meaning → ℕ → List ℕ
rows_to v c i = rows_bytes v (map c.row (range_with_len 0 i))

abbrev pub offsets_to : Version → Meaning → ℕ → List ℕ
offsets_to v c i = offsets_bytes v (map c.row (range_with_len 0 i))

pub rows_to_none : (v : Version) (c : Meaning) → rows_to v c 0 ≡ []
unfolding spell
rows_to_none v c = refl

pub rows_to_more : (v : Version) (c : Meaning) (i : ℕ) → rows_to v c (i + 1) ≡ rows_to v c i ++ row_bytes v (c.row i)
rows_to_more v c i = counted_push (row_bytes v) (λ s _. s + 1) c.row i

further : (v : Version) (c : Meaning) (i k : ℕ) → length (rows_to v c i) ≤ length (rows_to v c (i + k))
further v c i zero = let e : i + zero ≡ i = omega arith in rw e (omega arith)
further v c i (suc k) =
    let e : i + suc k ≡ i + k + 1 = omega arith in
    rw e (omega (arith, further v c i k, ap length (rows_to_more v c (i + k)) ∙ length-append (rows_to v c (i + k)) (row_bytes v (c.row (i + k)))))

pub rows_to-within : (v : Version) (c : Meaning) (i n : ℕ) → i < n → length (rows_to v c i) + length (row_bytes v (c.row i)) ≤ length (rows_to v c n)
rows_to-within v c i n h =
    let e : i + 1 + (n - (i + 1)) ≡ n = omega arith in
    omega (arith, rw e at (further v c (i + 1) (n - (i + 1))), ap length (rows_to_more v c i) ∙ length-append (rows_to v c i) (row_bytes v (c.row i)))

offsets_push : (v : Version) (rs : List Row) (off s : ℕ) (r : Row)
    → spell (λ at _. bytes_of 4 at) (λ at r. at + length (row_bytes v r)) off (rs ++ r ∷ [])
    ≡ spell (λ at _. bytes_of 4 at) (λ at r. at + length (row_bytes v r)) off rs ++ bytes_of 4 (off + length (spell (each (row_bytes v)) (λ s _. s + 1) s rs))
unfolding spell
offsets_push v [] off s r = append-nil (bytes_of 4 off) ∙ ap (bytes_of 4) (omega arith)
offsets_push v (x ∷ rs) off s r =
    let more : List ℕ = spell (each (row_bytes v)) (λ s _. s + 1) (s + 1) rs in
    let e : off + length (row_bytes v x) + length more ≡ off + length (row_bytes v x ++ more) = omega (arith, length-append (row_bytes v x) more) in
    ap (λ t. bytes_of 4 off ++ t) (offsets_push v rs (off + length (row_bytes v x)) (s + 1) r
    ∙ ap (λ k. spell (λ at _. bytes_of 4 at) (λ at r. at + length (row_bytes v r)) (off + length (row_bytes v x)) rs ++ bytes_of 4 k) e)
    ∙ sym (append_assoc (bytes_of 4 off) _ _)

pub offsets_to_none : (v : Version) (c : Meaning) → offsets_to v c 0 ≡ []
unfolding spell
offsets_to_none v c = refl

pub offsets_to_more : (v : Version) (c : Meaning) (i : ℕ) → offsets_to v c (i + 1) ≡ offsets_to v c i ++ bytes_of 4 (length (rows_to v c i))
offsets_to_more v c i =
    ap (offsets_bytes v) (map-range_with_len_more c.row 0 i i (omega arith)) ∙ offsets_push v (map c.row (range_with_len 0 i)) 0 0 (c.row i)
    ∙ ap (λ k. offsets_to v c i ++ bytes_of 4 k) (zero-add (length (rows_to v c i)))

pub offsets_to-length : (v : Version) (c : Meaning) (i : ℕ) → length (offsets_to v c i) ≡ 4 * i
offsets_to-length v c i = length_offsets v (map c.row (range_with_len 0 i)) ∙ ap (λ k. 4 * k) (length-map-range_with_len c.row 0 i)

-- ---- the whole file, in version 1
pub contents_are : (a b c d : ℕ) → contents_bytes version1 (a ∷ b ∷ c ∷ d ∷ [])
    ≡ bytes_of 2 1 ++ (bytes_of 2 4 ++ (entry_bytes (1, 44) a ++ (entry_bytes (2, 44 + a) b ++ (entry_bytes (3, 44 + a + b) c ++ (entry_bytes (4, 44 + a + b + c) d ++ [])))))
unfolding spell
contents_are a b c d = refl

abbrev pub marks_to : Meaning → List ℕ
marks_to c = marks_bytes (map c.mark (range_with_len 0 c.states))

pub marks-length : (c : Meaning) → length (marks_to c) ≡ c.states
marks-length c = length-marks _ ∙ length-map-range_with_len c.mark 0 c.states

pub encode-length : (c : Meaning) (n r : ℕ) → n ≡ c.states → r ≡ length (rows_to version1 c c.states) → 51 + n + 4 * n + r ≡ length (encode c)
encode-length c n r en er =
    omega (arith, length-assembled version1 (bodies_of version1 (file_of c)) refl, length-numbers version1 (file_of c).numbers, marks-length c, offsets_to-length version1 c c.states)

pub encode-split : (c : Meaning) (n r : ℕ) → n ≡ c.states → r ≡ length (rows_to version1 c c.states)
    → contents_bytes version1 (7 ∷ n ∷ 4 * n ∷ r ∷ [])
    ++ (numbers_bytes version1 (file_of c).numbers ++ (marks_to c ++ (offsets_to version1 c c.states ++ (rows_to version1 c c.states ++ [])))) ≡ encode c
encode-split c n r en er =
    let a : 7 ≡ length (numbers_bytes version1 (file_of c).numbers) = sym (length-numbers version1 (file_of c).numbers) in
    let b : n ≡ length (marks_to c) = omega (arith, marks-length c) in
    let d : 4 * n ≡ length (offsets_to version1 c c.states) = omega (arith, offsets_to-length version1 c c.states) in
    ap (λ ls. contents_bytes version1 ls ++ flat_map (λ b. b) (bodies_of version1 (file_of c))) (lists a b d er)
  where
    lists : {a b c d x y z w : ℕ} → a ≡ x → b ≡ y → c ≡ z → d ≡ w → a ∷ b ∷ c ∷ d ∷ [] ≡ x ∷ y ∷ z ∷ w ∷ []
    lists p q r s = cc
