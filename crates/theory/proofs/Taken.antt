-- A witness is taken exactly when its conditions hold.
use Rattle.std.proofs.Common.{◌≡◌, ℕ, ◌<◌, ◌≤◌, Bool, true, false, cond, not, ◌||◌, leb, List, length, ℤ, pos, ◌≤ℤ◌, is_ok, Some, None, Ok, Decides, Option, Result, sym, refl, ap, subst}
use mathlib.Core.Path.{fun_ext}
use lib.Signed.{le_z}
use borrow.Author.Differences.{le-true, true_is_le, le_out, at_most_in}
use Rattle.std.specs.List.{AllByRecursion}
use Rattle.std.proofs.lemmas.Bool.{false≢true, leb-true, le-leb, not_from_false}
use Rattle.std.proofs.lemmas.Bool.Decides.{Decides-at, Decides-and, Decides-eqb, Decides-ltb}
use Rattle.std.proofs.ByRecursion.{Decides-by_and}
use Rattle.chain.specs.Chains.{Meaning, Row, Edge, bad}
use Rattle.chain.specs.declared.refusal.Refusal.{Refusal}
use Rattle.chain.specs.declared.refusal.Refusal.TheVariants.{BadLength, BadNumber, BadChance, BadBound, BadSteps, BadStart}
use Rattle.theory.specs.Words.{◌·◌, sumℤ, every, lowest, is_none}
use Rattle.theory.specs.Values.{coef, named, value}
use Rattle.theory.specs.Boxes.{Box, Corner}
use Rattle.theory.specs.Chance.{million}
use Rattle.theory.specs.Witness.{Said, InOrder, Kept, Possible, at, mean, at_most, at_least, steps}
use Rattle.theory.specs.Answers.{number_ok, possible, chance_ok, in_order, kept, claim_ok, need, each}
use Rattle.theory.specs.Theorems.{SafeTakenExactly, UnsafeTakenExactly}
use Rattle.theory.proofs.Lowest.{passes_decides}
use Rattle.theory.proofs.Eval.{eval-at}
use Rattle.theory.proofs.Claims.{adds_none, adds_one, tested, at_most_lem, at_least_lem, in_steps}
use Rattle.theory.proofs.Numbered.{at_corners}

-- ---- tests
decides_leb : (m n : ℕ) → Decides (leb m n) (m ≤ n)
decides_leb m n = (leb-true m n, le-leb m n)

decides_int_le : (x y : ℤ) → Decides (le_z x y) (x ≤ℤ y)
decides_int_le x y = (λ e. at_most_in x y (le-true x y e), λ h. sym (true_is_le x y (le_out x y h)))

decides_order : (most : Bool) (x y : ℤ) → Decides (in_order most x y) (InOrder most x y)
decides_order true x y = decides_int_le x y
decides_order false x y = decides_int_le y x

decides_if : {P : Type 0} (t u : Bool) → Decides u P → Decides (cond t u true) (t ≡ true → P)
decides_if true u d = (λ e _. d.0 e, λ h. d.1 (h refl))
decides_if false u d = (λ _ e. absurd (false≢true e), λ _. refl)

or_is : (t u : Bool) → (not t || u) ≡ cond t u true
or_is true u = refl
or_is false u = refl

-- a row's numbers see its rates alone
value_same : (G : ℕ) (g g' : ℕ → ℕ) (r : Row) → ((p : ℕ) → p < named r → g p ≡ g' p) → value G g r ≡ value G g' r
value_same G g g' r h = fun_ext λ e. eval-at G g g' (named r) (coef e) h

mean_same : (G : ℕ) (g g' : ℕ → ℕ) (r : Row) (x : ℕ → ℕ) → ((p : ℕ) → p < named r → g p ≡ g' p) → mean G g r x ≡ mean G g' r x
mean_same G g g' r x h = ap (λ f. sumℤ (λ e. x e.successor · f e) r.edges) (value_same G g g' r h)

module _ (c : Meaning) where
  decides_number : (v : List ℕ) (s : ℕ) → Decides (number_ok c v s) ((at v s ≤ million) × (bad c s ≡ true → at v s ≡ million))
  decides_number v s = Decides-and _ _ (decides_leb (at v s) million)
      (Decides-at _ _ (or_is (bad c s) _) (decides_if (bad c s) _ (Decides-eqb (at v s) million)))

  module _ (G : ℕ) (b : Box) where
    decides_chances : (s : ℕ) → Decides (chance_ok c G b s) ((g : ℕ → ℕ) → Corner b (c.row s) g → AllByRecursion (Possible G g (c.row s)) (c.row s).edges)
    decides_chances s = let r = c.row s in at_corners b r (λ g. possible G g r) (λ g. AllByRecursion (Possible G g r) r.edges)
        (λ g. let ok = λ (e : Edge). le_z (pos 0) (value G g r e) in Decides-by_and ok (Possible G g r) (every ok) (λ e. decides_int_le (pos 0) (value G g r e)) refl (λ _ _. refl) r.edges)
        (λ g g' h. subst (λ f. AllByRecursion (λ e. pos 0 ≤ℤ f e) r.edges) (value_same G g g' r h))

    decides_claim : (k : Said) (s : ℕ) → Decides (claim_ok k c G b s) (k.tests (bad c s) s ≡ true → (g : ℕ → ℕ) → Corner b (c.row s) g → Kept k c.unit G (c.row s) s g)
    decides_claim k s = let r = c.row s in decides_if (k.tests (bad c s) s) _ (at_corners b r (kept k c.unit G r s) (Kept k c.unit G r s)
        (λ g. decides_order k.most _ _)
        (λ g g' h p. rw (mean_same G g g' r k.number h) at p))

-- ---- answers
-- an answer is taken exactly where a fact holds, and then with d
abbrev Taken : {A : Type 0} → Result A Refusal → Type 0 → A → Type 0
Taken answer P d = (is_ok answer ≡ true → P) × (P → answer ≡ Ok d)

module _ {A : Type 0} {d : A} where
  taken_last : Taken (Ok d) (Unit {0}) d
  taken_last = (λ _. tt, λ _. refl)

  taken_like : {P P' : Type 0} {answer : Result A Refusal} → Taken answer P d → (P → P') → (P' → P) → Taken answer P' d
  taken_like n f g = (λ e. f (n.0 e), λ h. n.1 (g h))

  module _ {Q : Type 0} {next : Result A Refusal} where
    after-need : {P : Type 0} {t : Bool} (refusal : Refusal) → Decides t P → Taken next Q d → Taken (need t refusal next) (P × Q) d
    after-need {t = true} refusal p n = (λ e. (p.0 refl, n.0 e), λ h. n.1 h.1)
    after-need {t = false} refusal p n = (λ e. absurd (false≢true e), λ h. absurd (false≢true (p.1 h.0)))

    after_none : {P : Type 0} (o : Option ℕ) (refusal : ℕ → Refusal) → Decides (is_none o) P → Taken next Q d → Taken (each o refusal next) (P × Q) d
    after_none None refusal p n = (λ e. (p.0 refl, n.0 e), λ h. n.1 h.1)
    after_none (Some s) refusal p n = (λ e. absurd (false≢true e), λ h. absurd (false≢true (p.1 h.0)))

    after-each : {P : ℕ → Type 0} {ok : ℕ → Bool} (n : ℕ) (refusal : ℕ → Refusal) → ((s : ℕ) → Decides (ok s) (P s))
        → Taken next Q d → Taken (each (lowest ok n) refusal next) (((s : ℕ) → s < n → P s) × Q) d
    after-each {ok = ok} n refusal p = let q = passes_decides ok n in
        after_none (lowest ok n) refusal (λ e s h. (p s).0 (q.0 e s h), λ h. q.1 (λ s l. (p s).1 (h s l)))

pub safe_taken_exactly : SafeTakenExactly
safe_taken_exactly c G L b v = taken_like
    (after-need BadLength (Decides-eqb (length v) c.states)
    (after-each c.states BadNumber (decides_number c v)
    (after-each c.states BadChance (decides_chances c G b)
    (after-each c.states BadBound (decides_claim c G b (at_most (at v)))
    (after-need BadStart (decides_leb (at v c.start) L) taken_last)))))
    (λ (many, (numbers, (chances, (most, (begins, _))))). record {
      numbers = record { many = many; most = λ s h. (numbers s h).0 };
      full = λ s h. (numbers s h).1;
      chances = chances;
      at_most = λ s h g i e. rw adds_none at (most s h (not_from_false _ e) g i);
      begins = begins;
    })
    (λ u. (u.numbers.many, (λ s h. (u.numbers.most s h, u.full s h), (u.chances, (at_most_lem u, (u.begins, tt))))))

pub unsafe_taken_exactly : UnsafeTakenExactly
unsafe_taken_exactly c G L b v w = taken_like
    (after-need BadLength (Decides-and _ _ (Decides-eqb (length v) c.states) (Decides-eqb (length w) c.states))
    (after-each c.states BadNumber (λ s. Decides-and _ _ (decides_number c v s) (decides_leb (at w s) million))
    (after-each c.states BadChance (decides_chances c G b)
    (after-each c.states BadBound (decides_claim c G b (at_least (at v)))
    (after-each c.states BadSteps (decides_claim c G b (steps (at v) (at w)))
    (after-need BadStart (Decides-ltb L (at v c.start)) taken_last))))))
    (λ (many, (numbers, (chances, (least, (rounds, (begins, _)))))). record {
      numbers = record { many = many.0; most = λ s h. (numbers s h).0.0 };
      rounds = record { many = many.1; most = λ s h. (numbers s h).1 };
      full = λ s h. (numbers s h).0.1;
      chances = chances;
      at_least = λ s h g i e l. rw adds_none at (least s h ((tested _ _).1 (e, l)) g i);
      steps = λ s h g i e l. rw adds_one at (rounds s h ((tested _ _).1 (e, l)) g i);
      begins = begins;
    })
    (λ u. let n = u.numbers in let m = u.rounds in
    ((n.many, m.many), (λ s h. ((n.most s h, u.full s h), m.most s h), (u.chances, (at_least_lem u, (in_steps u, (u.begins, tt)))))))
