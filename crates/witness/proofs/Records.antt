-- A row's record read edge by edge.
use Rattle.std.proofs.Common.{◌≡◌, ℕ, zero, suc, ◌+◌, ◌^◌, ◌<◌, Bool, ◌&&◌, List, [], ◌∷◌, map, length, get_or, take, ℤ, pos, ◌+ℤ◌, sym, refl, ap, ◌∙◌, add-one, arith}
use mathlib.Core.Path.{fun_ext}
use lib.IntN.{+ℤ_assoc, +ℤ_idl, +ℤ_idr}
use lib.Signed.{le_z}
use Rattle.std.specs.List.{list_all}
use Rattle.std.proofs.lemmas.List.{length-take-le, get_or-take, get_or_default}
use Rattle.chain.specs.declared.record.EdgeRecord.{EdgeRecord}
use Rattle.chain.specs.declared.record.RowRecord.{RowRecord}
use Rattle.theory.specs.Words.{◌·◌, sumℤ, every}
use Rattle.theory.specs.Values.{named, eval, value}
use Rattle.theory.specs.Boxes.{Box, corner_of}
use Rattle.theory.specs.Witness.{at, mean}
use Rattle.theory.specs.Answers.{possible_at}
use Rattle.theory.proofs.Eval.{eval-at}
use Rattle.witness.specs.Rows.{entry, Small, blank, edge_of, row_of, Readable}
use Rattle.witness.proofs.Tables.{front-worth}

-- ---- a sum over the front of a list
pub sum_more : {X : Type 0} (f : X → ℤ) (xs : List X) (i : ℕ) (d : X) → i < length xs
    → sumℤ f (take (i + 1) xs) ≡ sumℤ f (take i xs) +ℤ f (get_or xs i d)
sum_more f [] i d h = absurd (omega arith)
sum_more f (x ∷ xs) zero d h = +ℤ_idr (f x) ∙ sym (+ℤ_idl (f x))
sum_more f (x ∷ xs) (suc i) d h = rw add-one (ap (λ z. f x +ℤ z) (ap (λ n. sumℤ f (take n xs)) (sym (add-one i)) ∙ sum_more f xs i d (omega arith)) ∙ sym (+ℤ_assoc (f x) (sumℤ f (take i xs)) (f (get_or xs i d))))

-- ---- the edges of a record
sum-map : {X Y : Type 0} (f : Y → ℤ) (g : X → Y) (xs : List X) → sumℤ f (map g xs) ≡ sumℤ (λ x. f (g x)) xs
sum-map f g [] = refl
sum-map f g (x ∷ xs) = ap (λ z. f (g x) +ℤ z) (sum-map f g xs)

all_map : {X Y : Type 0} (f : Y → Bool) (g : X → Y) (xs : List X) → list_all (λ x. f (g x)) xs ≡ every f (map g xs)
all_map f g [] = refl
all_map f g (x ∷ xs) = ap (λ z. f (g x) && z) (all_map f g xs)

pub named-is : (m : ℕ) (r : RowRecord) → Readable m r → named (row_of r) ≡ r.rate_count
named-is m r h = length-take-le r.rate_count r.rates (omega (arith, h.rates_few, h.rates_long))

-- an edge's value at a point, from its record
abbrev pub worth : ℕ → List ℕ → ℕ → EdgeRecord → ℤ
worth G numbers j e = eval G (at numbers) j (entry e.coefficients)

-- at a point that stands for a corner
module _ (m : ℕ) (r : RowRecord) (readable : Readable m r) where
  pub edge_small : (e : EdgeRecord) (k : ℕ) → k < length (take r.edge_count r.edges) → e ≡ get_or (take r.edge_count r.edges) k e → Small 8000 e.coefficients
  edge_small e k h same =
      let n : k < r.edge_count = omega (arith, length-take-le r.edge_count r.edges (omega (arith, readable.edges_few, readable.edges_long))) in
      let first : k < length r.edges = omega (arith, readable.edges_few, readable.edges_long) in
      rw (same ∙ get_or-take r.edge_count r.edges k e n ∙ get_or_default r.edges k e blank first) (readable.small k)

  module _ (G G' : ℕ) (b : Box) (t : ℕ) (numbers : List ℕ) (j : ℕ) (grid : G ≡ G') (many : j ≡ r.rate_count)
      (stands : (p : ℕ) → p < r.rate_count → at numbers p ≡ corner_of b (row_of r) t p) where
    value-is : (e : EdgeRecord) → worth G numbers j e ≡ value G' (corner_of b (row_of r) t) (row_of r) (edge_of r.rate_count e)
    value-is e =
        (λ i. worth (grid i) numbers (many i) e)
        ∙ eval-at G' (at numbers) (corner_of b (row_of r) t) r.rate_count (entry e.coefficients) stands
        ∙ sym (front-worth G' (2 ^ r.rate_count) r.rate_count (corner_of b (row_of r) t) e.coefficients refl)
        ∙ ap (λ n. eval G' (corner_of b (row_of r) t) n (entry (take (2 ^ r.rate_count) e.coefficients))) (sym (named-is m r readable))

    pub mean-is : (x : ℕ → ℕ) → sumℤ (λ e. x e.successor · worth G numbers j e) (take r.edge_count r.edges) ≡ mean G' (corner_of b (row_of r) t) (row_of r) x
    mean-is x = ap (λ f. sumℤ f (take r.edge_count r.edges)) (fun_ext λ e. ap (λ z. x e.successor · z) (value-is e))
        ∙ sym (sum-map (λ e. x e.successor · value G' (corner_of b (row_of r) t) (row_of r) e) (edge_of r.rate_count) (take r.edge_count r.edges))

    pub possible-is : list_all (λ e. le_z (pos 0) (worth G numbers j e)) (take r.edge_count r.edges) ≡ possible_at G' b (row_of r) t
    possible-is = ap (λ f. list_all f (take r.edge_count r.edges)) (fun_ext λ e. ap (le_z (pos 0)) (value-is e))
        ∙ all_map (λ e. le_z (pos 0) (value G' (corner_of b (row_of r) t) (row_of r) e)) (edge_of r.rate_count) (take r.edge_count r.edges)
