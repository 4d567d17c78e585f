-- The record of a lawful row spells the row.
use Rattle.std.proofs.Common.{◌≡◌, ℕ, zero, suc, ◌+◌, ◌-◌, ◌/◌, ◌%◌, ◌^◌, ◌<◌, ◌≤◌, List, [], ◌∷◌, ◌++◌, map, length, get_or, take, replicate, ℤ, pos, of_z, Ok, Err, Result, MatchResult, refl, ap, ◌∙◌, arith}
use Rattle.std.specs.Int.{w16, w32, to_le_bytes}
use Rattle.std.specs.List.{AllByRecursion, flat_map}
use Rattle.std.proofs.lemmas.List.{take_at, take_more, length-map}
use Rattle.chain.specs.Chains.{Edge, Row, Meaning, Ascends, LawfulEdge, LawfulRow}
use Rattle.chain.specs.Filled.{filled_edge, filled, no_edge}
use Rattle.chain.specs.declared.refusal.Refusal.{Refusal}
use Rattle.chain.specs.declared.refusal.Refusal.TheVariants.{NoState}
use Rattle.chain.specs.declared.record.RowRecord.{RowRecord}
use Rattle.chain_format.specs.Reader.{bytes_of, spell, each, stay}
use Rattle.chain_format.specs.Format.{Version, coefficient_bytes, edge_bytes, row_bytes}
use Rattle.chain_format.proofs.Written.{spell_push}
use Rattle.chain_writer.specs.Wrote.{edge_record_bytes, record_bytes}

-- ---- numbers
pub take-le_bytes : (w v : ℕ) → w ≤ 4 → take w (to_le_bytes w32 v) ≡ bytes_of w v
unfolding bytes_of
take-le_bytes zero v h = refl
take-le_bytes (suc zero) v h = refl
take-le_bytes (suc (suc zero)) v h = refl
take-le_bytes (suc (suc (suc zero))) v h =
    let a : v / 256 / 256 ≡ v / 65536 = omega arith in
    rw a refl
take-le_bytes (suc (suc (suc (suc zero)))) v h =
    let a : v / 256 / 256 ≡ v / 65536 = omega arith in
    let b : v / 65536 / 256 ≡ v / 16777216 = omega arith in
    rw (a, b) refl
take-le_bytes (suc (suc (suc (suc (suc w))))) v h = absurd (omega arith)

pub coefficients-spelt : (k : ℕ) (xs : List ℤ) (ys : List (List ℕ)) (n : ℕ) → length xs ≡ n → length ys ≡ n
    → ((i : ℕ) → i < n → get_or ys i [] ≡ to_le_bytes w16 (of_z w16 (get_or xs i (pos 0))))
    → flat_map (λ y. y) (take k ys) ≡ spell (each coefficient_bytes) stay 0 (take k xs)
unfolding spell bytes_of
coefficients-spelt zero xs ys n a b at = refl
coefficients-spelt (suc k) [] [] n a b at = refl
coefficients-spelt (suc k) [] (y ∷ ys) n a b at = absurd (omega arith)
coefficients-spelt (suc k) (x ∷ xs) [] n a b at = absurd (omega arith)
coefficients-spelt (suc k) (x ∷ xs) (y ∷ ys) n a b at =
    let e : y ≡ to_le_bytes w16 (of_z w16 x) = at 0 (omega arith) in
    let more = coefficients-spelt k xs ys (n - 1) (omega arith) (omega arith) (λ i l. at (suc i) (omega arith)) in
    rw (e, more) refl

-- rates, which are bytes, spell themselves
pub rates-spelt : (f : ℕ → ℕ → ℕ) (s low top : ℕ) (xs : List ℕ) → top ≤ 256 → Ascends low top xs → xs ≡ spell (each (bytes_of 1)) f s xs
unfolding spell bytes_of
rates-spelt f s low top [] h a = refl
rates-spelt f s low top (x ∷ xs) h a =
    let b : x % 256 ≡ x = omega (arith, a.1) in
    rw (b, ← rates-spelt f (f s x) (x + 1) top xs h a.2) refl

-- ---- values of a slice, one more
pub spell-take_more : {A : Type 0} (w : A → List ℕ) (xs : List A) (i : ℕ) (d : A) → i < length xs
    → spell (each w) stay 0 (take (i + 1) xs) ≡ spell (each w) stay 0 (take i xs) ++ w (get_or xs i d)
spell-take_more w xs i d h = ap (spell (each w) stay 0) (take_more xs i d h) ∙ spell_push w stay 0 (take i xs) (get_or xs i d)

-- ---- rows
edge_same : (v : Version) (size : ℕ) (e : Edge) → LawfulEdge size e → edge_record_bytes v size (filled_edge e) ≡ edge_bytes v e
edge_same v size e l = ap (λ t. bytes_of v.wide e.successor ++ spell (each coefficient_bytes) stay 0 t) (take_at e.coefficients _ size l.many)

edges_same : (v : Version) (size : ℕ) (f : ℕ → Edge → ℕ) (s : ℕ) (es : List Edge) → AllByRecursion (LawfulEdge size) es
    → spell (each (edge_record_bytes v size)) stay 0 (map filled_edge es) ≡ spell (each (edge_bytes v)) f s es
unfolding spell
edges_same v size f s [] a = refl
edges_same v size f s (e ∷ es) a = rw (edge_same v size e a.0, edges_same v size f (f s e) es a.1) refl

pub record_bytes-filled : (v : Version) (n m unit : ℕ) (x : Row) → m ≤ 4 → LawfulRow n m unit x → record_bytes v (filled x) ≡ row_bytes v x
record_bytes-filled v n m unit x few l =
    let a = take_at x.rates (replicate (3 - length x.rates) 0) (length x.rates) refl in
    let b = take_at (map filled_edge x.edges) (replicate (8 - length (map filled_edge x.edges)) no_edge) (length x.edges) (length-map x.edges filled_edge) in
    let r = rates-spelt (λ _ r. r + 1) 0 0 m x.rates (omega arith) l.rates_rise in
    rw (a, b, ← r, edges_same v (2 ^ length x.rates) (λ _ e. e.successor + 1) 0 x.edges l.edges_lawful) refl

-- the record that a chain fills for a state that it has
pub told : (c : Meaning) (i : ℕ) → i < c.states → (r : Result (Unit {0}) Refusal) (before after : RowRecord)
    → MatchResult r (λ _. (i < c.states) × (after ≡ filled (c.row i))) (λ e. (c.states ≤ i) × (e ≡ NoState) × (after ≡ before)) → after ≡ filled (c.row i)
told c i h (Ok _) before after m = m.1
told c i h (Err _) before after m = absurd (omega (arith, m.0))
