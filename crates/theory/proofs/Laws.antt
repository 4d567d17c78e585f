-- What the rules of a row say of its rates, its successors and its sums.
use Rattle.std.proofs.Common.{◌≡◌, ℕ, ◌+◌, ◌^◌, ◌<◌, List, [], ◌∷◌, map, get_or, ◌+ℤ◌, refl, ◌∙◌, map-id}
use Rattle.std.specs.List.{AllByRecursion}
use Rattle.std.proofs.ByRecursion.{All-get_or}
use Rattle.chain.specs.Chains.{Row, Edge, Ascends, LawfulRow, total, due}
use Rattle.theory.specs.Words.{◌·◌, sumℤ}
use Rattle.theory.specs.Values.{named, coef}
use Rattle.theory.proofs.Ints.{one_·}

ascends_below : {X : Type 0} (f : X → ℕ) (low top : ℕ) (xs : List X) → Ascends low top (map f xs) → AllByRecursion (λ x. f x < top) xs
ascends_below f low top [] a = tt
ascends_below f low top (x ∷ xs) a = (a.1, ascends_below f (f x + 1) top xs a.2)

total-is : (i : ℕ) (es : List Edge) → sumℤ (λ e. 1 · coef e i) es ≡ total i es
total-is i [] = refl
total-is i (e ∷ es) = λ t. one_· (coef e i) t +ℤ total-is i es t

module _ {states rates unit : ℕ} {r : Row} (law : LawfulRow states rates unit r) where
  pub known : (p : ℕ) → p < named r → get_or r.rates p 0 < rates
  known p h = All-get_or (λ x. x < rates) r.rates p 0 h (ascends_below (λ x. x) 0 rates r.rates (rw map-id law.rates_rise))

  pub successors : AllByRecursion (λ e. e.successor < states) r.edges
  successors = ascends_below (λ e. e.successor) 0 states r.edges law.edges_rise

  pub entries : (i : ℕ) → i < 2 ^ named r → sumℤ (λ e. 1 · coef e i) r.edges ≡ due unit i
  entries i h = total-is i r.edges ∙ law.sums i h
