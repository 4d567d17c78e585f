-- What arrays hold whose first places are filled, and the sums of a record's edges.
use Rattle.std.proofs.Common.{◌≡◌, ℕ, zero, suc, ◌+◌, ◌-◌, ◌^◌, ◌<◌, ◌≤◌, Bool, ◌&&◌, List, [], ◌∷◌, ◌++◌, map, length, get_or, take, drop, replicate, ℤ, pos, ◌+ℤ◌, sym, refl, ap, ◌∙◌, arith}
use borrow.Author.Differences.{ints}
use Rattle.std.proofs.Math.Bool.{and_assoc, and-true}
use Rattle.std.specs.List.{list_all, range_with_len}
use Rattle.std.proofs.lemmas.List.{take_more, length-take, length-replicate, drop-replicate}
use Rattle.chain.specs.Chains.{Edge, Row, total}
use Rattle.chain.specs.Filled.{padded, no_edge, filled_edge, filled}
use Rattle.chain.specs.declared.record.RowRecord.{RowRecord}
use Rattle.chain.specs.declared.record.EdgeRecord.{EdgeRecord}
use Rattle.chain_format.specs.Format.{balanced}
use Rattle.chain_file.specs.Columns.{column, tallied}

-- ---- the front of an array
pub front_length : {X : Type 0} (n k : ℕ) (d : X) → k ≤ n → length (take k (replicate n d)) ≡ k
front_length n k d h = length-take k (replicate n d) ∙ omega (arith, length-replicate n d)

pub pad : {X : Type 0} (n k : ℕ) (d : X) (ys : List X) → length ys ≡ k → ys ++ drop k (replicate n d) ≡ padded n d ys
pad n k d ys h =
    let e : n - k ≡ n - length ys = omega arith in
    ap (λ t. ys ++ t) (drop-replicate k n d ∙ ap (λ m. replicate m d) e)

pub four_of : (xs : List ℕ) → length xs ≡ 4 → xs ≡ get_or xs 0 0 ∷ get_or xs 1 0 ∷ get_or xs 2 0 ∷ get_or xs 3 0 ∷ []
four_of [] h = absurd (omega arith)
four_of (a ∷ []) h = absurd (omega arith)
four_of (a ∷ b ∷ []) h = absurd (omega arith)
four_of (a ∷ b ∷ c ∷ []) h = absurd (omega arith)
four_of (a ∷ b ∷ c ∷ d ∷ []) h = refl
four_of (a ∷ b ∷ c ∷ d ∷ e ∷ xs) h = absurd (omega arith)

-- ---- sums
column_push : (i : ℕ) (es : List EdgeRecord) (e : EdgeRecord) → column i (es ++ e ∷ []) ≡ column i es +ℤ get_or e.coefficients i (pos 0)
column_push i [] e = omega (arith, ints)
column_push i (x ∷ es) e = omega (arith, ints, column_push i es e)

pub column_take_more : (i : ℕ) (es : List EdgeRecord) (k : ℕ) (d : EdgeRecord) → k < length es
    → column i (take (k + 1) es) ≡ column i (take k es) +ℤ get_or (get_or es k d).coefficients i (pos 0)
column_take_more i es k d h = ap (column i) (take_more es k d h) ∙ column_push i (take k es) (get_or es k d)

get_or_zeros : (n i : ℕ) → get_or (replicate n (pos 0)) i (pos 0) ≡ pos 0
get_or_zeros zero i = refl
get_or_zeros (suc n) zero = refl
get_or_zeros (suc n) (suc i) = get_or_zeros n i

get_or-padded : (cs : List ℤ) (n i : ℕ) → get_or (cs ++ replicate n (pos 0)) i (pos 0) ≡ get_or cs i (pos 0)
get_or-padded [] n i = get_or_zeros n i
get_or-padded (c ∷ cs) n zero = refl
get_or-padded (c ∷ cs) n (suc i) = get_or-padded cs n i

column_none : (i n : ℕ) → column i (replicate n no_edge) ≡ pos 0
column_none i zero = refl
column_none i (suc n) = rw (get_or_zeros 8 i, column_none i n)

column-is : (i n : ℕ) (es : List Edge) → column i (map filled_edge es ++ replicate n no_edge) ≡ total i es
column-is i n [] = column_none i n
column-is i n (e ∷ es) = rw (get_or-padded e.coefficients (8 - length e.coefficients) i, column-is i n es)

pub all_more : (test : ℕ → Bool) (a k j : ℕ) → a + k ≡ j → list_all test (range_with_len a (suc k)) ≡ (list_all test (range_with_len a k) && test j)
all_more test a zero j e = let s : a ≡ j = omega arith in rw s (and-true (test j))
all_more test a (suc k) j e = rw (all_more test (a + 1) k j (omega arith)) (sym (and_assoc (test a) (list_all test (range_with_len (a + 1) k)) (test j)))

pub tallied-is : (unit n : ℕ) (es : List Edge) (k : ℕ) → tallied unit (map filled_edge es ++ replicate n no_edge) k ≡ balanced unit es k
unfolding balanced
tallied-is unit n es zero = refl
tallied-is unit n es (suc k) = rw (all_more _ 0 k k (omega arith), tallied-is unit n es k, column-is k n es) refl

pub sums_are : (unit : ℕ) (x : Row) (r : RowRecord) (k : ℕ) (b : Bool) → r ≡ filled x → k ≡ 2 ^ r.rate_count → b ≡ tallied unit r.edges k
    → balanced unit x.edges (2 ^ length x.rates) ≡ b
sums_are unit x r k b e h t =
    sym (t ∙ ap (λ n. tallied unit r.edges n) h ∙ ap (λ (q : RowRecord). tallied unit q.edges (2 ^ q.rate_count)) e ∙ tallied-is unit _ x.edges _)
