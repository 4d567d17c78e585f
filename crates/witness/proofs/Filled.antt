-- The record that a chain fills with a lawful row can be read, and gives the row back.
use Rattle.std.proofs.Common.{◌≡◌, ℕ, zero, suc, ◌+◌, ◌-◌, ◌^◌, ◌<◌, ◌≤◌, List, [], ◌∷◌, map, length, get_or, replicate, ℤ, pos, negsuc, nat_abs, refl, ap, ◌∙◌, inl, inr, zero-le, arith}
use borrow.Author.Differences.{ints}
use Rattle.std.specs.List.{AllByRecursion}
use Rattle.std.proofs.lemmas.List.{take_at, length-append, length-replicate, length-map, get_or_past}
use Rattle.std.proofs.ByRecursion.{All-get_or, All-append, All-map, All-weaker}
use Rattle.std.proofs.lemmas.Bool.Decides.{leb_tells}
use Rattle.chain.specs.Chains.{Edge, Row, Ascends, Limited, LawfulEdge, LawfulRow}
use Rattle.chain.specs.Filled.{padded, no_edge, filled_edge, filled}
use Rattle.witness.specs.Rows.{Small, blank, edge_of, row_of, Readable}

-- ---- padded lists
padded_long : {X : Type 0} (k : ℕ) (d : X) (xs : List X) → length xs ≤ k → length (padded k d xs) ≡ k
padded_long k d xs h = length-append xs (replicate (k - length xs) d) ∙ ap (λ n. length xs + n) (length-replicate (k - length xs) d) ∙ omega arith

all_replicate : {X : Type 0} (P : X → Type 0) (n : ℕ) (d : X) → P d → AllByRecursion P (replicate n d)
all_replicate P zero d p = tt
all_replicate P (suc n) d p = (p, all_replicate P n d p)

padded_all : {X : Type 0} (P : X → Type 0) (k : ℕ) (d : X) (xs : List X) → P d → AllByRecursion P xs → AllByRecursion P (padded k d xs)
padded_all P k d xs p h = All-append P xs (replicate (k - length xs) d) h (all_replicate P (k - length xs) d p)

-- what holds of every element and of the default holds wherever a list is read
everywhere : {X : Type 0} (P : X → Type 0) (xs : List X) (d : X) → AllByRecursion P xs → P d → (i : ℕ) → P (get_or xs i d)
everywhere P xs d h p i = elim (leb_tells (length xs) i) [ inl t ↦ rw (get_or_past xs i d t.1) p | inr t ↦ All-get_or P xs i d t.1 h ]

ascends_below : (low top : ℕ) (xs : List ℕ) → Ascends low top xs → AllByRecursion (λ x. x < top) xs
ascends_below low top [] h = tt
ascends_below low top (x ∷ xs) h = (h.1, ascends_below (x + 1) top xs h.2)

-- ---- edges
limited_small : (z : ℤ) → Limited z → nat_abs z ≤ 8000
limited_small (pos n) h = omega (arith, ints, h.1)
limited_small (negsuc n) h = omega (arith, ints, h.0)

edge_back : (j : ℕ) (e : Edge) → length e.coefficients ≡ 2 ^ j → edge_of j (filled_edge e) ≡ e
edge_back j e h = ap (λ cs. record { successor = e.successor; coefficients = cs }) (take_at e.coefficients (replicate (8 - length e.coefficients) (pos 0)) (2 ^ j) h)

edges_back : (j : ℕ) (es : List Edge) → AllByRecursion (LawfulEdge (2 ^ j)) es → map (edge_of j) (map filled_edge es) ≡ es
edges_back j [] h = refl
edges_back j (e ∷ es) h = λ i. edge_back j e h.0.many i ∷ edges_back j es h.1 i

edge-small : (n : ℕ) (e : Edge) → LawfulEdge n e → Small 8000 (filled_edge e).coefficients
edge-small n e h = everywhere (λ z. nat_abs z ≤ 8000) (padded 8 (pos 0) e.coefficients) (pos 0)
    (padded_all (λ z. nat_abs z ≤ 8000) 8 (pos 0) e.coefficients zero-le (All-weaker Limited (λ z. nat_abs z ≤ 8000) limited_small e.coefficients h.limits)) zero-le

-- ---- rows
module _ {states rates unit : ℕ} {r : Row} (law : LawfulRow states rates unit r) where
  pub row_back : row_of (filled r) ≡ r
  row_back = λ i. record {
    rates = take_at r.rates (replicate (3 - length r.rates) 0) (length r.rates) refl i;
    edges = (ap (map (edge_of (length r.rates))) (take_at (map filled_edge r.edges) (replicate (8 - length (map filled_edge r.edges)) no_edge) (length r.edges) (length-map r.edges filled_edge))
        ∙ edges_back (length r.rates) r.edges law.edges_lawful) i;
  }

  pub readable : 1 ≤ rates → Readable rates (filled r)
  readable some = record {
    rates_long = padded_long 3 0 r.rates law.rates_few;
    edges_long = padded_long 8 no_edge (map filled_edge r.edges) (omega (arith, length-map r.edges filled_edge, law.edges_few));
    rates_few = law.rates_few;
    edges_few = law.edges_few;
    known = everywhere (λ x. x < rates) (padded 3 0 r.rates) 0 (padded_all (λ x. x < rates) 3 0 r.rates some (ascends_below 0 rates r.rates law.rates_rise)) some;
    small = everywhere (λ e. Small 8000 e.coefficients) (padded 8 no_edge (map filled_edge r.edges)) blank
        (padded_all (λ e. Small 8000 e.coefficients) 8 no_edge (map filled_edge r.edges) (everywhere (λ z. nat_abs z ≤ 8000) (replicate 8 (pos 0)) (pos 0) (all_replicate (λ z. nat_abs z ≤ 8000) 8 (pos 0) zero-le) zero-le)
        (All-map (λ e. Small 8000 e.coefficients) filled_edge r.edges (All-weaker (LawfulEdge (2 ^ length r.rates)) (λ e. Small 8000 (filled_edge e).coefficients) (edge-small (2 ^ length r.rates)) r.edges law.edges_lawful))) (λ i. zero-le);
  }
