-- What holds at the corners of a row holds at each setting in the box.
use Rattle.std.proofs.Common.{◌≡◌, ℕ, zero, suc, ◌-◌, ◌*◌, ◌^◌, Bool, true, false, List, [], ◌∷◌, ℤ, pos, ◌+ℤ◌, ◌≤ℤ◌, sym, refl, ap, ◌∙◌, subst₂, mul_assoc, zero-mul, mul_left_comm, arith, pow-add}
use mathlib.Core.Path.{fun_ext}
use borrow.Author.Differences.{ints}
use Rattle.chain.specs.Chains.{Edge, Row, LawfulRow, due}
use Rattle.theory.specs.Words.{◌·◌, sumℤ}
use Rattle.theory.specs.Values.{eval, coef, named, of, value, exact}
use Rattle.theory.specs.Boxes.{Box, Proper, Setting, Inside, Corner}
use Rattle.theory.specs.Witness.{Said, InOrder, Kept, Possible, mean}
use Rattle.theory.specs.Theorems.{KeptExactly, CornersDecide}
use Rattle.theory.proofs.Ints.{·_add, ·_swap, ·_mono}
use Rattle.theory.proofs.Eval.{eval_add, eval-·, eval_same, eval-due, corners}
use Rattle.theory.proofs.Plain.{sum-is-value}
use Rattle.theory.proofs.Laws.{known, entries}

-- the table of a sum over edges
abbrev table : (ℕ → ℕ) → List Edge → ℕ → ℤ
table x es i = sumℤ (λ e. x e.successor · coef e i) es

table_is : (d : ℕ) (g : ℕ → ℕ) (j : ℕ) (x : ℕ → ℕ) (es : List Edge) → sumℤ (λ e. x e.successor · eval d g j (coef e)) es ≡ eval d g j (table x es)
table_is d g j x [] = zeros j
  where
    zeros : (j : ℕ) → pos 0 ≡ eval d g j (λ i. pos 0)
    zeros zero = refl
    zeros (suc j) = zeros j ∙ ap (eval d g j) (fun_ext λ i. omega (arith, ints))
table_is d g j x (e ∷ es) = sym (eval_add d g j (λ i. x e.successor · coef e i) (table x es)
    ∙ (λ t. eval-· d g j (x e.successor) (coef e) t +ℤ sym (table_is d g j x es) t))

·-sum : {X : Type 0} (m : ℕ) (f : X → ℤ) (xs : List X) → m · sumℤ f xs ≡ sumℤ (λ x. m · f x) xs
·-sum m f [] = omega (arith, ints)
·-sum m f (x ∷ xs) = ·_add m (f x) (sumℤ f xs) ∙ ap (λ z. m · f x +ℤ z) (·-sum m f xs)

module _ {states rates unit G : ℕ} {b : Box} {r : Row} (x : Setting)
    (law : LawfulRow states rates unit r) (proper : Proper rates G b) (inside : Inside rates G b x) where
  abbrev j : ℕ
  j = named r

  abbrev a : ℕ → ℕ
  a = x.numerator

  abbrev q : ℕ
  q = x.denominator

  -- from the unit of j rates to that of three
  abbrev C : ℕ
  C = q ^ (3 - j)

  -- a side of a comparison: its table, what it is at a corner, and at the setting
  record Side (T : ℕ → ℤ) (X : (ℕ → ℕ) → ℤ) (Y : ℤ) : Type 0 where
    there : (g : ℕ → ℕ) → eval G g j T ≡ X g
    here : C · eval q (of a r) j T ≡ Y

  below : {T T' : ℕ → ℤ} {X X' : (ℕ → ℕ) → ℤ} {Y Y' : ℤ} → Side T X Y → Side T' X' Y'
      → ((g : ℕ → ℕ) → Corner b r g → X g ≤ℤ X' g) → Y ≤ℤ Y'
  below {T} {T'} s t h = subst₂ ◌≤ℤ◌ s.here t.here (·_mono C _ _
      (corners G q (of b.low r) (of b.high r) (of a r) proper.grid j T T' (λ g c. subst₂ ◌≤ℤ◌ (sym (s.there g)) (sym (t.there g)) (h g c))
      (λ p l. let k = known law p l in (proper.wide _ k, (inside _ k).0, (inside _ k).1))))

  ordered : {T T' : ℕ → ℤ} {X X' : (ℕ → ℕ) → ℤ} {Y Y' : ℤ} (most : Bool) → Side T X Y → Side T' X' Y'
      → ((g : ℕ → ℕ) → Corner b r g → InOrder most (X g) (X' g)) → InOrder most Y Y'
  ordered true s t = below s t
  ordered false s t = below t s

  powers : C * q ^ j ≡ q ^ 3
  powers = sym (pow-add q (3 - j) j) ∙ ap (λ z. q ^ z) (omega (arith, law.rates_few))

  constant : (N : ℕ) → Side (due N) (λ g. pos (N * G ^ j)) (pos (N * q ^ 3))
  constant N = record {
    there = λ g. eval-due G g j N;
    here = ap (λ z. C · z) (eval-due q (of a r) j N) ∙ ap pos (mul_left_comm C N (q ^ j) ∙ ap (λ z. N * z) powers);
  }

  times : (y : ℕ) → Side (due (y * unit)) (λ g. pos (y * (unit * G ^ j))) (pos (y * (unit * q ^ 3)))
  times y = let s = constant (y * unit) in
      record { there = λ g. s.there g ∙ ap pos (mul_assoc y unit (G ^ j)); here = s.here ∙ ap pos (mul_assoc y unit (q ^ 3)) }

  none : Side (due 0) (λ g. pos 0) (pos 0)
  none = let s = constant 0 in record { there = λ g. s.there g ∙ ap pos (zero-mul (G ^ j)); here = s.here ∙ ap pos (zero-mul (q ^ 3)) }

  edge : (e : Edge) → Side (coef e) (λ g. value G g r e) (exact a q r e)
  edge e = record { there = λ g. refl; here = sym (sum-is-value a q r e law.rates_few) }

  abbrev exact-mean : (ℕ → ℕ) → ℤ
  exact-mean f = sumℤ (λ e. f e.successor · exact a q r e) r.edges

  sum : (f : ℕ → ℕ) → Side (table f r.edges) (λ g. mean G g r f) (exact-mean f)
  sum f = record {
    there = λ g. sym (table_is G g j f r.edges);
    here =
        ap (λ z. C · z) (sym (table_is q (of a r) j f r.edges)) ∙ ·-sum C _ r.edges
        ∙ ap (λ h. sumℤ h r.edges) (fun_ext λ e. ·_swap C (f e.successor) _ ∙ ap (λ z. f e.successor · z) (edge e).here);
  }

  both : {T T' : ℕ → ℤ} {X X' : (ℕ → ℕ) → ℤ} {Y Y' : ℤ} → Side T X Y → Side T' X' Y' → Side (λ i. T i +ℤ T' i) (λ g. X g +ℤ X' g) (Y +ℤ Y')
  both {T} {T'} s t = record {
    there = λ g. eval_add G g j T T' ∙ (λ i. s.there g i +ℤ t.there g i);
    here = ap (λ z. C · z) (eval_add q (of a r) j T T') ∙ ·_add C (eval q (of a r) j T) (eval q (of a r) j T') ∙ (λ i. s.here i +ℤ t.here i);
  }

  pub claim : (k : Said) (s : ℕ) → ((g : ℕ → ℕ) → Corner b r g → Kept k unit G r s g) → KeptExactly k unit r s x
  claim k s = ordered k.most (both (times (k.adds s)) (sum k.number)) (times (k.number s))

  pub chance : (e : Edge) → ((g : ℕ → ℕ) → Corner b r g → Possible G g r e) → pos 0 ≤ℤ exact x.numerator x.denominator r e
  chance e = below none (edge e)

  -- the chances of a row add up to 1
  pub whole_row : sumℤ (λ e. 1 · exact x.numerator x.denominator r e) r.edges ≡ pos (unit * x.denominator ^ 3)
  whole_row = sym (sum (λ _. 1)).here ∙ ap (λ z. C · z) (eval_same q (of a r) j (table (λ _. 1) r.edges) (due unit) (entries law)) ∙ (constant unit).here

pub corners_decide : CornersDecide
corners_decide states rates unit G b r law proper x inside = (claim x law proper inside, chance x law proper inside)
