-- A list of calls, one call more.
use Rattle.std.proofs.Common.{◌≡◌, ℕ, ◌+◌, ◌<◌, List, [], ◌∷◌, ◌++◌, map, length, get_or, take, sym, refl, ap, ◌∙◌}
use Rattle.std.proofs.lemmas.List.{map_more}
use Rattle.chain.specs.Chains.{Meaning}
use Rattle.theory.specs.Maps.{MapValue}
use Rattle.theory.specs.Runs.{Answer, Command, after, answer, run_from, answers_from}

run_push : (c : Meaning) (m : MapValue) (ks : List Command) (k : Command) → run_from c m (ks ++ k ∷ []) ≡ after c (run_from c m ks) k
run_push c m [] k = refl
run_push c m (j ∷ ks) k = run_push c (after c m j) ks k

answers_push : (c : Meaning) (m : MapValue) (ks : List Command) (k : Command) → answers_from c m (ks ++ k ∷ []) ≡ answers_from c m ks ++ answer c (run_from c m ks) k ∷ []
answers_push c m [] k = refl
answers_push c m (j ∷ ks) k = ap (λ t. answer c m j ∷ t) (answers_push c (after c m j) ks k)

module _ {X : Type 0} (f : X → Command) (c : Meaning) (m : MapValue) (calls : List X) (i : ℕ) (d : X) (h : i < length calls) where
  pub run_more : (before exit : MapValue) → before ≡ run_from c m (map f (take i calls)) → exit ≡ after c before (f (get_or calls i d)) → exit ≡ run_from c m (map f (take (i + 1) calls))
  run_more before exit p q = q ∙ ap (λ x. after c x (f (get_or calls i d))) p ∙ sym (ap (run_from c m) (map_more f calls i d h) ∙ run_push c m (map f (take i calls)) (f (get_or calls i d)))

  pub answers_more : (before : MapValue) (xs ys : List Answer) (a : Answer) → before ≡ run_from c m (map f (take i calls)) → xs ≡ answers_from c m (map f (take i calls))
      → a ≡ answer c before (f (get_or calls i d)) → ys ≡ xs ++ a ∷ [] → ys ≡ answers_from c m (map f (take (i + 1) calls))
  answers_more before xs ys a p q e n =
      n ∙ (λ t. q t ++ (e ∙ ap (λ x. answer c x (f (get_or calls i d))) p) t ∷ [])
      ∙ sym (ap (answers_from c m) (map_more f calls i d h) ∙ answers_push c m (map f (take i calls)) (f (get_or calls i d)))
