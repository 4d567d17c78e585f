-- A loop that reads value after value: what has been read so far, and what is left.
use Rattle.std.proofs.Common.{◌≡◌, ℕ, suc, ◌+◌, ◌-◌, ◌<◌, List, [], ◌∷◌, ◌++◌, sym, refl, ap, ◌∙◌, add-zero, zero-add, arith}
use Rattle.std.proofs.lemmas.List.{append_assoc, append-nil}
use Rattle.chain.specs.declared.refusal.Refusal.{Refusal}
use Rattle.chain_format.specs.Reader.{Answer, refused, got, Reader, after, repeat}
use Rattle.chain_format.proofs.Steps.{repeat_nothing, repeat_stop}

abbrev pub onto : {A : Type 0} → List A → Answer (List A) → Answer (List A)
onto xs (refused q) = refused q
onto xs (got more to) = got (xs ++ more) to

-- from the state s and the place at, the i values xs lead to the state t and the place mid; and so do some i values
abbrev pub Took : {S A : Type 0} → (S → Reader A) → (S → A → S) → S → ℕ → ℕ → S → ℕ → List A → Type 0
Took r next s at i t mid xs = (k : ℕ) → repeat r next (i + k) s at ≡ onto xs (repeat r next k t mid)

abbrev pub Reached : {S A : Type 0} → (S → Reader A) → (S → A → S) → S → ℕ → ℕ → S → ℕ → Type 0
Reached {A = A} r next s at i t mid = (xs : List A) × Took r next s at i t mid xs

onto_nil : {A : Type 0} (x : Answer (List A)) → x ≡ onto [] x
onto_nil (refused q) = refl
onto_nil (got more to) = refl

onto_more : {A : Type 0} (xs : List A) (a : A) (x : Answer (List A)) → onto xs (after x (λ more to. got (a ∷ more) to)) ≡ onto (xs ++ a ∷ []) x
unfolding after
onto_more xs a (refused q) = refl
onto_more xs a (got more to) = rw append_assoc

more : {S A : Type 0} (r : S → Reader A) (next : S → A → S) (k : ℕ) (t : S) (mid : ℕ) (a : A) (to : ℕ) → r t mid ≡ got a to
    → repeat r next (suc k) t mid ≡ after (repeat r next k (next t a) to) (λ more to. got (a ∷ more) to)
unfolding repeat after
more r next k t mid a to e = rw e

pub took_more : {S A : Type 0} (r : S → Reader A) (next : S → A → S) (s : S) (at i : ℕ) (t u : S) (mid : ℕ) (a : A) (to : ℕ) (xs : List A)
    → Took r next s at i t mid xs → r t mid ≡ got a to → next t a ≡ u → Took r next s at (i + 1) u to (xs ++ a ∷ [])
took_more r next s at i t u mid a to xs h e q k =
    let l : i + 1 + k ≡ i + suc k = omega arith in
    rw l (h (suc k) ∙ ap (onto xs) (more r next k t mid a to e) ∙ onto_more xs a _ ∙ rw q refl)

pub took_all : {S A : Type 0} (r : S → Reader A) (next : S → A → S) (s : S) (at i n : ℕ) (t : S) (mid to : ℕ) (xs : List A)
    → Took r next s at i t mid xs → i ≡ n → mid ≡ to → repeat r next n s at ≡ got xs to
took_all r next s at i n t mid to xs h e q =
    ap (λ k. repeat r next k s at) (sym e) ∙ rw add-zero at (h 0) ∙ ap (onto xs) (repeat_nothing r next 0 t mid to refl q) ∙ ap (λ ys. got ys to) (append-nil xs)

pub reached_none : {S A : Type 0} (r : S → Reader A) (next : S → A → S) (s : S) (at : ℕ) → Reached r next s at 0 s at
reached_none r next s at = ([], λ k. rw zero-add (onto_nil (repeat r next k s at)))

pub reached_more : {S A : Type 0} (r : S → Reader A) (next : S → A → S) (s : S) (at i : ℕ) (t u : S) (mid : ℕ) (a : A) (to : ℕ)
    → Reached r next s at i t mid → r t mid ≡ got a to → next t a ≡ u → Reached r next s at (i + 1) u to
reached_more r next s at i t u mid a to h e q = (h.0 ++ a ∷ [], took_more r next s at i t u mid a to h.0 h.1 e q)

pub reached_all : {S A : Type 0} (r : S → Reader A) (next : S → A → S) (s : S) (at i n : ℕ) (t : S) (mid to : ℕ)
    → Reached r next s at i t mid → i ≡ n → mid ≡ to → (xs : List A) × (repeat r next n s at ≡ got xs to)
reached_all r next s at i n t mid to h e q = (h.0, took_all r next s at i n t mid to h.0 h.1 e q)

pub reached_stop : {S A : Type 0} (r : S → Reader A) (next : S → A → S) (s : S) (at i n : ℕ) (t : S) (mid : ℕ) (q : Refusal)
    → Reached r next s at i t mid → i < n → r t mid ≡ refused q → repeat r next n s at ≡ refused q
reached_stop r next s at i n t mid q h l e =
    let w : n ≡ i + suc (n - i - 1) = omega arith in
    rw w (h.1 (suc (n - i - 1)) ∙ ap (onto h.0) (repeat_stop r next _ t mid q (omega arith) e))
