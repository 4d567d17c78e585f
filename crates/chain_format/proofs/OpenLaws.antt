-- What a file that opens spells, and that every file of a lawful chain opens.
use Rattle.std.proofs.Common.{◌≡◌, ℕ, zero, suc, ◌+◌, ◌*◌, ◌/◌, ◌^◌, ◌<◌, ◌≤◌, Bool, true, cond, List, [], ◌∷◌, ◌++◌, map, length, get_or, sym, refl, ap, ◌∙◌, subst, ⊎_elim, add-zero, arith, length-append, pow_mono}
use Rattle.std.specs.List.{flat_map, AllByRecursion}
use Rattle.std.proofs.lemmas.Bool.{eqb-true, eq-eqb, cases_lt}
use Rattle.std.proofs.ByRecursion.{All-append, All-get_or}
use Rattle.std.proofs.lemmas.List.{get_or_past, length-map}
use Rattle.chain.specs.Chains.{Edge, Row, LawfulEdge, LawfulRow}
use Rattle.chain.specs.declared.refusal.Refusal.{Refusal}
use Rattle.chain.specs.declared.refusal.Refusal.TheVariants.{BadContents, BadNumbers, BadMark, BadRow}
use Rattle.chain_format.specs.Reader.{Answer, got, Reader, Part, part, bytes_of, after, checked, done, spell, stay, each, ◌then◌}
use Rattle.chain_format.specs.Format.{Version, version1, first, numbers_length, Entry, next_entry, contents, Numbers, numbers, marks, rows, File, numbers_on, bodies, sum, sectioned, opened, entry_bytes, contents_bytes, numbers_bytes, marks_bytes, coefficient_bytes, edge_bytes, row_bytes, offsets_bytes, rows_bytes, bodies_of, assembled}
use Rattle.chain_format.specs.Theorems.{Bytes}
use Rattle.chain_format.proofs.Laws.{Spelt, split, join, Each, by_after, cond_got, got_same, length-bytes_of, repeat_codec}
use Rattle.chain_format.proofs.RowLaws.{Roomy}
use Rattle.chain_format.proofs.FileLaws.{Small, LawfulNumbers, contents_codec, numbers_codec, marks_codec, row_codec, each_rows, rows-each, all_spelt, spelt_all}

pub version1_roomy : Roomy version1
version1_roomy = record { version_fits = omega arith; sections_fit = omega arith; holds = omega arith; few = omega arith }

pub record LawfulFile (f : File) : Type 0 where
  pub numbers_lawful : LawfulNumbers f.numbers
  pub marks_many : length f.marks ≡ f.numbers.states
  pub marks_lawful : AllByRecursion (λ v. v ≤ 1) f.marks
  pub rows_many : length f.rows ≡ f.numbers.states
  pub rows_lawful : AllByRecursion (LawfulRow f.numbers.states f.numbers.rates f.numbers.unit) f.rows

-- the same bytes in another part
pub moved : (bs : List ℕ) (e : ℕ) (k : ℕ → Refusal) (end : ℕ) (fault : ℕ → Refusal) (xs : List ℕ) (at : ℕ)
    → at + length xs ≤ end → Spelt (part bs e k) at xs → Spelt (part bs end fault) at xs
moved bs e k end fault [] at l h = omega arith
moved bs e k end fault (x ∷ xs) at l h = (h.0, moved bs e k end fault xs (at + 1) (omega arith) h.1)

pub join_at : (p : Part) (xs ys : List ℕ) (at mid : ℕ) → mid ≡ at + length xs → Spelt p at xs → Spelt p mid ys → Spelt p at (xs ++ ys)
join_at p xs ys at mid e h t = join p xs ys at h (rw e at t)

after_is : {A B : Type 0} {x : Answer A} (f : A → Reader B) {a : A} {mid : ℕ} {r : Answer B} → x ≡ got a mid → f a mid ≡ r → after x f ≡ r
unfolding after
after_is f e h = rw e h

cond_is : {A : Type 0} {t : Bool} {x r : Answer A} (y : Answer A) → t ≡ true → x ≡ r → cond t x y ≡ r
cond_is y e h = rw e h

-- ---- lengths
pub length-spell : {S A : Type 0} (w : S → A → List ℕ) (next : S → A → S) (c : ℕ) → ((s : S) (a : A) → length (w s a) ≡ c)
    → (s : S) (xs : List A) → length (spell w next s xs) ≡ c * length xs
unfolding spell
length-spell w next c h s [] = omega arith
length-spell w next c h s (x ∷ xs) =
    length-append (w s x) _ ∙ omega (arith, h s x, length-spell w next c h (next s x) xs)

pub length-entry : (s : Entry) (l : ℕ) → length (entry_bytes s l) ≡ 10
length-entry s l = simp (length-append, length-bytes_of)

pub length-contents : (v : Version) (ls : List ℕ) → length (contents_bytes v ls) ≡ 4 + 10 * length ls
length-contents v ls =
    let e = length-spell entry_bytes next_entry 10 length-entry (1, first v) ls in
    simp (length-append, length-bytes_of) (omega arith)

pub length-numbers : (v : Version) (k : Numbers) → length (numbers_bytes v k) ≡ numbers_length v
length-numbers v k = simp (length-append, length-bytes_of) (omega arith)

pub length-marks : (ms : List ℕ) → length (marks_bytes ms) ≡ length ms
length-marks ms = length-spell (each (bytes_of 1)) stay 1 (λ _ v. length-bytes_of 1 v) 0 ms ∙ omega arith

pub length_offsets : (v : Version) (rs : List Row) → length (offsets_bytes v rs) ≡ 4 * length rs
length_offsets v rs = length-spell (λ at _. bytes_of 4 at) (λ at r. at + length (row_bytes v r)) 4 (λ at _. length-bytes_of 4 at) 0 rs

pub length_joined : (bodies : List (List ℕ)) → length (flat_map (λ b. b) bodies) ≡ sum (map length bodies)
length_joined [] = refl
length_joined (b ∷ bodies) = length-append b _ ∙ ap (λ n. length b + n) (length_joined bodies)

pub length-assembled : (v : Version) (bodies : List (List ℕ)) → length bodies ≡ v.sections → length (assembled v bodies) ≡ first v + sum (map length bodies)
length-assembled v bodies h =
    length-append (contents_bytes v (map length bodies)) _
    ∙ omega (arith, length-contents v (map length bodies), length-map bodies length, length_joined bodies)

-- ---- the contents
abbrev pub Whole : List ℕ → Part
Whole bs = part bs (length bs) BadContents

each-small : (ls : List ℕ) (kind off at : ℕ) → kind + length ls ≤ 65536 → off + sum ls < 256 ^ 4 → Each entry_bytes next_entry Small (kind, off) ls at
each-small [] kind off at h l = tt
each-small (x ∷ ls) kind off at h l =
    ((omega arith, omega arith, omega arith), each-small ls (kind + 1) (off + x) _ (omega arith) (omega arith))

pub sectioned_read : {P A : Type 0} (v : Version) → Roomy v → (bs : List ℕ) → Bytes bs → (rest : List ℕ → Reader A) (a : A) (to : ℕ)
    → sectioned v bs rest 0 ≡ got a to
    → ((ls : List ℕ) → length ls ≡ v.sections → Spelt (Whole bs) 0 (contents_bytes v ls) → first v + sum ls ≡ length bs → rest ls (first v) ≡ got a to → P) → P
unfolding ◌then◌ checked
sectioned_read v room bs by rest a to e next =
    by_after (contents v (Whole bs) 0) e λ ls mid g h.
    let x = (contents_codec v room (Whole bs) by).reads 0 mid ls (omega arith) g in
    let m : mid ≡ first v = omega (arith, x.1, length-contents v ls, x.2.0) in
    let u = cond_got _ (rest ls mid) _ a to h in
    next ls x.2.0 x.0 (rw m at (eqb-true (mid + sum ls) (length bs) u.0)) (rw m at u.1)

pub sectioned_spelt : {A : Type 0} (v : Version) → Roomy v → (bs : List ℕ) → Bytes bs → (rest : List ℕ → Reader A) (ls : List ℕ) (r : Answer A)
    → length ls ≡ v.sections → Spelt (Whole bs) 0 (contents_bytes v ls) → first v + sum ls ≡ length bs → first v + sum ls < 256 ^ 4
    → rest ls (first v) ≡ r → sectioned v bs rest 0 ≡ r
unfolding ◌then◌ checked
sectioned_spelt v room bs by rest ls r many s fills fits e =
    let m : 0 + length (contents_bytes v ls) ≡ first v = omega (arith, length-contents v ls) in
    after_is _ ((contents_codec v room (Whole bs) by).spells 0 ls s (many, each-small ls 1 (first v) 0 (omega (arith, room.sections_fit)) fits))
    (rw m (cond_is _ (eq-eqb _ _ fills) e))

-- ---- the four bodies: what has been read of them
pub record Laid (v : Version) (bs : List ℕ) (l1 l2 l3 l4 : ℕ) (f : File) : Type 0 where
  pub len_1 : l1 ≡ length (numbers_bytes v f.numbers)
  pub len_2 : l2 ≡ length (marks_bytes f.marks)
  pub len_3 : l3 ≡ length (offsets_bytes v f.rows)
  pub len_4 : l4 ≡ length (rows_bytes v f.rows)
  pub spelt : Spelt (part bs (first v + l1 + l2 + l3 + l4) BadRow) (first v) (flat_map (λ b. b) (bodies_of v f))
  pub lawful : LawfulFile f

pub bodies_read : (v : Version) → Roomy v → (bs : List ℕ) → Bytes bs → (l1 l2 l3 l4 : ℕ) (f : File) (to : ℕ)
    → numbers_on v bs l1 l2 l3 l4 (first v) ≡ got f to → Laid v bs l1 l2 l3 l4 f × (to ≡ first v + l1 + l2 + l3 + l4)
unfolding checked ◌then◌ done
bodies_read v room bs by l1 l2 l3 l4 f to e =
    let w = part bs (first v + l1 + l2 + l3 + l4) BadRow in
    let u2 = cond_got _ _ _ f to e in
    let long : l1 ≡ numbers_length v = eqb-true _ _ u2.0 in
    by_after (numbers v (part bs (first v + l1) BadNumbers) (first v)) u2.1 λ k at2 g2 h2.
    let x2 = (numbers_codec v room (part bs (first v + l1) BadNumbers) by).reads (first v) at2 k (omega arith) g2 in
    let u3 = cond_got _ _ _ f to h2 in
    let many : l2 ≡ k.states = eqb-true _ _ u3.0 in
    let n1 = length-numbers v k in
    by_after (marks (part bs (first v + l1 + l2) BadMark) k.states at2) u3.1 λ ms at3 g3 h3.
    let x3 = (marks_codec (part bs (first v + l1 + l2) BadMark) by k.states).reads at2 at3 ms (omega (arith, x2.1)) g3 in
    let u4 = cond_got _ _ _ f to h3 in
    let four : l3 ≡ 4 * k.states = eqb-true _ _ u4.0 in
    let n2 = length-marks ms in
    by_after (rows v w k at3) u4.1 λ rs at4 g4 h4.
    let law = row_codec v room w by at3 (at3 + 4 * k.states) k.states k.rates k.unit x2.2.states_few x2.2.rates_few in
    let x4 = (repeat_codec w (λ s _. s + 1) law k.states 0).reads (at3 + 4 * k.states) at4 rs (omega (arith, x2.1, x3.1, x3.2.0)) g4 in
    let y4 = each_rows v room w by at3 (at3 + 4 * k.states) k.states k.rates k.unit x2.2.states_few x2.2.rates_few
    rs 0 (at3 + 4 * k.states) 0 (omega arith) (omega (arith, x2.1, x3.1, x3.2.0, x4.2.0)) x4.2.1 in
    let u5 = cond_got _ _ _ f to h4 in
    let full : at4 ≡ first v + l1 + l2 + l3 + l4 = eqb-true _ _ u5.0 in
    let q = got_same _ _ _ _ u5.1 in
    let n3 = length_offsets v rs in
    let zero-on : at3 + 4 * 0 ≡ at3 = omega arith in (
      rw (← q.0)
          (record {
            len_1 = omega arith;
            len_2 = omega (arith, x3.2.0);
            len_3 = omega (arith, x4.2.0);
            len_4 = omega (arith, x2.1, x3.1, x3.2.0, x4.1);
            spelt =
                join_at w _ _ (first v) at2 x2.1 (moved bs _ BadNumbers _ BadRow _ (first v) (omega arith) x2.0)
                (join_at w _ _ at2 at3 x3.1 (moved bs _ BadMark _ BadRow _ at2 (omega (arith, x2.1, x3.2.0)) x3.0)
                (join_at w _ _ at3 (at3 + 4 * k.states) (omega (arith, x4.2.0)) (rw zero-on at y4.0)
                (join_at w _ [] (at3 + 4 * k.states) at4 x4.1 x4.0 (omega arith))));
            lawful = record { numbers_lawful = x2.2; marks_many = x3.2.0; marks_lawful = x3.2.1; rows_many = x4.2.0; rows_lawful = y4.1 };
          }),
      sym q.1 ∙ full,
    )

-- ---- a file is short
length_spell_le : {S A : Type 0} (w : S → A → List ℕ) (next : S → A → S) (c : ℕ) (P : A → Type 0) → ((s : S) (a : A) → P a → length (w s a) ≤ c)
    → (s : S) (xs : List A) → AllByRecursion P xs → length (spell w next s xs) ≤ c * length xs
unfolding spell
length_spell_le w next c P h s [] a = omega arith
length_spell_le w next c P h s (x ∷ xs) a =
    omega (arith, length-append (w s x) (spell w next (next s x) xs), h s x a.0, length_spell_le w next c P h (next s x) xs a.1)

pub edge-length : (v : Version) (size : ℕ) (e : Edge) → LawfulEdge size e → length (edge_bytes v e) ≡ v.wide + 2 * size
edge-length v size e l =
    omega (
      arith,
      length-append (bytes_of v.wide e.successor) (spell (each coefficient_bytes) stay 0 e.coefficients),
      length-bytes_of v.wide e.successor,
      length-spell (each coefficient_bytes) stay 2 (λ _ z. length-bytes_of 2 _) 0 e.coefficients,
      l.many,
    )

row_short : (v : Version) → v.wide ≤ 4 → (n m unit : ℕ) (r : Row) → LawfulRow n m unit r → length (row_bytes v r) ≤ 165
row_short v few n m unit r l =
    let j = length r.rates in
    let rates : List ℕ = spell (each (bytes_of 1)) (λ _ x. x + 1) 0 r.rates in
    let edges : List ℕ = spell (each (edge_bytes v)) (λ _ e. e.successor + 1) 0 r.edges in
    let size : 2 ^ j ≤ 8 = pow_mono l.rates_few in
    let a : length edges ≤ 20 * length r.edges =
    length_spell_le (each (edge_bytes v)) _ 20 (LawfulEdge (2 ^ j)) (λ _ e h. omega (arith, edge-length v (2 ^ j) e h)) 0 r.edges l.edges_lawful in
    let b : length rates ≡ 1 * length r.rates = length-spell (each (bytes_of 1)) _ 1 (λ _ x. length-bytes_of 1 x) 0 r.rates in
    let c : length (row_bytes v r) ≡ (1 + length rates) + (1 + length edges) = simp (length-append, length-bytes_of) in
    omega (arith, l.edges_few, l.rates_few)

pub rows_short : (v : Version) → v.wide ≤ 4 → (n m unit : ℕ) (rs : List Row) → AllByRecursion (LawfulRow n m unit) rs → length (rows_bytes v rs) ≤ 165 * length rs
rows_short v few n m unit rs a = length_spell_le (each (row_bytes v)) _ 165 (LawfulRow n m unit) (λ _ r h. row_short v few _ _ _ r h) 0 rs a

-- ---- the four bodies are read as they are laid
pub bodies_spelt : (v : Version) → Roomy v → (bs : List ℕ) → Bytes bs → (l1 l2 l3 l4 : ℕ) (f : File) → Laid v bs l1 l2 l3 l4 f
    → numbers_on v bs l1 l2 l3 l4 (first v) ≡ got f (first v + l1 + l2 + l3 + l4)
unfolding checked ◌then◌ done
bodies_spelt v room bs by l1 l2 l3 l4 f r =
    let k = f.numbers in
    let w = part bs (first v + l1 + l2 + l3 + l4) BadRow in
    let l = r.lawful in
    let b1 = numbers_bytes v k in
    let b2 = marks_bytes f.marks in
    let b3 = offsets_bytes v f.rows in
    let b4 = rows_bytes v f.rows in
    let t1 = split w b1 _ (first v) r.spelt in
    let t2 = split w b2 _ _ t1.1 in
    let t3 = split w b3 _ _ t2.1 in
    let t4 = split w b4 [] _ t3.1 in
    let n1 : length b1 ≡ numbers_length v = length-numbers v k in
    let n2 : length b2 ≡ length f.marks = length-marks f.marks in
    let n3 : length b3 ≡ 4 * length f.rows = length_offsets v f.rows in
    let n4 : length b4 ≤ 165 * length f.rows = rows_short v room.few _ _ _ f.rows l.rows_lawful in
    let few = l.numbers_lawful.states_few in
    let less = l.numbers_lawful.rates_few in
    let at3 = first v + length b1 + length b2 in
    let law = row_codec v room w by at3 (at3 + 4 * k.states) k.states k.rates k.unit few less in
    let at4 : at3 + length b3 ≡ at3 + 4 * k.states = omega (arith, l.rows_many) in
    let ends : at3 + 4 * k.states + length b4 ≡ first v + l1 + l2 + l3 + l4 =
    omega (arith, r.len_1, r.len_2, r.len_3, r.len_4, l.rows_many) in
    cond_is _ (eq-eqb _ _ (r.len_1 ∙ n1))
    (after_is _ ((numbers_codec v room (part bs (first v + l1) BadNumbers) by).spells (first v) k
    (moved bs _ BadRow _ BadNumbers b1 (first v) (omega (arith, r.len_1)) t1.0) l.numbers_lawful)
    (cond_is _ (eq-eqb _ _ (r.len_2 ∙ n2 ∙ l.marks_many))
    (after_is _ ((marks_codec (part bs (first v + l1 + l2) BadMark) by k.states).spells _ f.marks
    (moved bs _ BadRow _ BadMark b2 _ (omega (arith, r.len_1, r.len_2)) t2.0) (l.marks_many, l.marks_lawful))
    (cond_is _ (eq-eqb _ _ (r.len_3 ∙ n3 ∙ ap (λ x. 4 * x) l.rows_many))
    (after_is _ ((repeat_codec w (λ s _. s + 1) law k.states 0).spells _ f.rows (rw at4 at t4.0) (
      l.rows_many,
      rows-each v room w by _ _ k.states k.rates k.unit few less f.rows 0 _ 0 (omega arith) (omega (arith, n4, l.rows_many, few))
          (rw add-zero t3.0) l.rows_lawful,
    ))
    (cond_is _ (eq-eqb _ _ ends) (ap (λ t. got f t) ends)))))))

-- ---- what is written are bytes
abbrev Byte : ℕ → Type 0
Byte x = x < 256

under_bytes_of : (w x : ℕ) → AllByRecursion Byte (bytes_of w x)
unfolding bytes_of
under_bytes_of zero x = tt
under_bytes_of (suc w) x = (omega arith, under_bytes_of w (x / 256))

under_spell : {S A : Type 0} (w : S → A → List ℕ) (next : S → A → S) → ((s : S) (a : A) → AllByRecursion Byte (w s a)) → (s : S) (xs : List A) → AllByRecursion Byte (spell w next s xs)
unfolding spell
under_spell w next h s [] = tt
under_spell w next h s (x ∷ xs) = All-append Byte (w s x) _ (h s x) (under_spell w next h (next s x) xs)

-- a number, and then bytes
under_on : (w x : ℕ) (xs : List ℕ) → AllByRecursion Byte xs → AllByRecursion Byte (bytes_of w x ++ xs)
under_on w x xs h = All-append Byte (bytes_of w x) xs (under_bytes_of w x) h

under_edge : (v : Version) (e : Edge) → AllByRecursion Byte (edge_bytes v e)
under_edge v e = under_on v.wide _ _ (under_spell _ _ (λ _ z. under_bytes_of 2 _) 0 e.coefficients)

under_row : (v : Version) (r : Row) → AllByRecursion Byte (row_bytes v r)
under_row v r =
    All-append Byte (bytes_of 1 (length r.rates) ++ _) _
    (under_on 1 _ _ (under_spell _ _ (λ _ x. under_bytes_of 1 x) 0 r.rates))
    (under_on 1 _ _ (under_spell _ _ (λ _ e. under_edge v e) 0 r.edges))

under_bodies : (v : Version) (f : File) → AllByRecursion (AllByRecursion Byte) (bodies_of v f)
under_bodies v f = (
  under_on v.wide _ _ (under_on 1 _ _ (under_on 2 _ _ (under_bytes_of v.wide _))),
  (
    under_spell _ _ (λ _ x. under_bytes_of 1 x) 0 f.marks,
    (
      under_spell _ _ (λ x _. under_bytes_of 4 x) 0 f.rows,
      (under_spell _ _ (λ _ r. under_row v r) 0 f.rows, tt),
    ),
  ),
)

under_joined : (bodies : List (List ℕ)) → AllByRecursion (AllByRecursion Byte) bodies → AllByRecursion Byte (flat_map (λ b. b) bodies)
under_joined [] h = tt
under_joined (b ∷ bodies) h = All-append Byte b _ h.0 (under_joined bodies h.1)

under_assembled : (v : Version) (bodies : List (List ℕ)) → AllByRecursion (AllByRecursion Byte) bodies → AllByRecursion Byte (assembled v bodies)
under_assembled v bodies h =
    All-append Byte (contents_bytes v (map length bodies)) _
    (under_on 2 _ _ (under_on 2 _ _ (under_spell entry_bytes next_entry (λ s l. under_on 2 s.0 _ (under_on 4 s.1 _ (under_bytes_of 4 l))) (1, first v) _)))
    (under_joined bodies h)

pub file_bytes : (v : Version) (f : File) → Bytes (assembled v (bodies_of v f))
file_bytes v f i =
    let bs = assembled v (bodies_of v f) in
    ⊎_elim (λ h. All-get_or Byte bs i 0 h (under_assembled v (bodies_of v f) (under_bodies v f))) (λ h. rw (get_or_past bs i 0 h) (omega arith)) (cases_lt i (length bs))

-- ---- version 1
four : (ls : List ℕ) → length ls ≡ 4 → ls ≡ get_or ls 0 0 ∷ get_or ls 1 0 ∷ get_or ls 2 0 ∷ get_or ls 3 0 ∷ []
four [] e = absurd (omega arith)
four (a ∷ []) e = absurd (omega arith)
four (a ∷ b ∷ []) e = absurd (omega arith)
four (a ∷ b ∷ c ∷ []) e = absurd (omega arith)
four (a ∷ b ∷ c ∷ d ∷ []) e = refl
four (a ∷ b ∷ c ∷ d ∷ x ∷ xs) e = absurd (omega arith)

pub opened-is : (bs : List ℕ) → opened bs ≡ sectioned version1 bs (bodies version1 bs) 0
unfolding opened
opened-is bs = refl

-- how a file that opens is laid
laid_by : {P : Type 0} (bs : List ℕ) → Bytes bs → (f : File) (to : ℕ) → opened bs ≡ got f to
    → ((a b c d : ℕ) → Spelt (Whole bs) 0 (contents_bytes version1 (a ∷ b ∷ c ∷ d ∷ [])) → Laid version1 bs a b c d f → 44 + a + b + c + d ≡ length bs → to ≡ length bs → P) → P
unfolding opened
laid_by bs by f to e next =
    sectioned_read version1 version1_roomy bs by (bodies version1 bs) f to e λ ls many s fills h.
    let all : ls ≡ get_or ls 0 0 ∷ get_or ls 1 0 ∷ get_or ls 2 0 ∷ get_or ls 3 0 ∷ [] = four ls many in
    let x = bodies_read version1 version1_roomy bs by _ _ _ _ f to h in
    let whole : 44 + (get_or ls 0 0 + (get_or ls 1 0 + (get_or ls 2 0 + (get_or ls 3 0 + 0)))) ≡ length bs = ap (λ l. 44 + sum l) (sym all) ∙ fills in
    next _ _ _ _ (subst (λ l. Spelt (Whole bs) 0 (contents_bytes version1 l)) all s) x.0 (omega arith) (omega (arith, x.1))

pub opened-laid : {P : Type 0} (bs : List ℕ) → Bytes bs → (f : File) (to : ℕ) → opened bs ≡ got f to
    → ((a b c d : ℕ) → Laid version1 bs a b c d f → 44 + a + b + c + d ≡ length bs → P) → P
opened-laid bs by f to e next = laid_by bs by f to e λ a b c d s r whole _. next a b c d r whole

pub opened_read : (bs : List ℕ) → Bytes bs → (f : File) (to : ℕ) → opened bs ≡ got f to
    → (assembled version1 (bodies_of version1 f) ≡ bs) × LawfulFile f × (to ≡ length bs)
opened_read bs by f to e =
    laid_by bs by f to e λ a b c d s r whole ends.
    let w = Whole bs in
    let ls : List ℕ = map length (bodies_of version1 f) in
    let same : a ∷ b ∷ c ∷ d ∷ [] ≡ ls = cc (r.len_1, r.len_2, r.len_3, r.len_4) in
    let sizes : sum ls ≡ a + (b + (c + (d + 0))) = ap sum (sym same) in
    let long = length-assembled version1 (bodies_of version1 f) refl in
    let t = moved bs _ BadRow (length bs) BadContents _ 44 (omega (arith, length_joined (bodies_of version1 f))) r.spelt in
    let m : 44 ≡ 0 + length (contents_bytes version1 ls) = omega (arith, length-contents version1 ls) in
    (sym (spelt_all w refl _ 0 (omega arith) (join_at w _ _ 0 44 m (rw same at s) t)), r.lawful, ends)

pub opened_spelt : (bs : List ℕ) (f : File) → LawfulFile f → assembled version1 (bodies_of version1 f) ≡ bs → opened bs ≡ got f (length bs)
unfolding opened
opened_spelt bs f l e =
    let v = version1 in
    let by : Bytes bs = λ i. rw (← e) (file_bytes v f i) in
    let w = Whole bs in
    let k = f.numbers in
    let ls : List ℕ = map length (bodies_of v f) in
    let fills : 44 + sum ls ≡ length bs = sym (length-assembled v (bodies_of v f) refl) ∙ ap length e in
    let all : Spelt w 0 (assembled v (bodies_of v f)) = all_spelt w refl _ 0 (omega arith) (sym e) in
    let t = split w (contents_bytes v ls) (flat_map (λ b. b) (bodies_of v f)) 0 all in
    let m : 0 + length (contents_bytes v ls) ≡ 44 = omega (arith, length-contents v ls) in
    let n1 = length-numbers v k in
    let n2 = length-marks f.marks in
    let n3 = length_offsets v f.rows in
    let n4 = rows_short v (omega arith) k.states k.rates k.unit f.rows l.rows_lawful in
    let laid : Laid v bs _ _ _ _ f =
    record {
      len_1 = refl;
      len_2 = refl;
      len_3 = refl;
      len_4 = refl;
      lawful = l;
      spelt = moved bs _ BadContents _ BadRow _ 44 (omega (arith, length_joined (bodies_of v f))) (rw m at t.1);
    } in
    sectioned_spelt v version1_roomy bs by (bodies v bs) ls _ refl t.0 fills (omega arith)
    (bodies_spelt v version1_roomy bs by _ _ _ _ f laid ∙ ap (λ n. got f n) (omega arith))
