-- What is proved of the definitions; each stands in the contract of a function.
use Rattle.std.specs.Prelude.{◌≡◌, ℕ, ◌-◌, ◌*◌, ◌^◌, ◌≤◌, true, List, pos, ◌+ℤ◌, ◌≤ℤ◌, is_ok, Ok}
use Rattle.chain.specs.Chains.{Meaning, Row, Edge, Lawful, LawfulRow}
use Rattle.theory.specs.declared.verdict.Verdict.TheVariants.{Safe, Unsafe}
use Rattle.theory.specs.Words.{◌·◌, sumℤ}
use Rattle.theory.specs.Values.{named, of, value, exact}
use Rattle.theory.specs.Boxes.{Box, Proper, Setting, Inside, Corner}
use Rattle.theory.specs.Chance.{KeepsTo, Exceeds}
use Rattle.theory.specs.Witness.{Said, InOrder, Kept, Possible, SafeWitness, UnsafeWitness, at, step_number}
use Rattle.theory.specs.Answers.{safe_answer, unsafe_answer}

-- the plain sum of an edge's chance is its value rate by rate, in the unit of three rates
abbrev pub SumIsValue : Type 0
SumIsValue = (a : ℕ → ℕ) (q : ℕ) (r : Row) (e : Edge) → named r ≤ 3 → exact a q r e ≡ q ^ (3 - named r) · value q (of a r) r e

-- a claim at the setting itself
abbrev pub KeptExactly : Said → ℕ → Row → ℕ → Setting → Type 0
KeptExactly k unit r s x = InOrder k.most
    (pos (k.adds s * (unit * x.denominator ^ 3)) +ℤ sumℤ (λ e. k.number e.successor · exact x.numerator x.denominator r e) r.edges)
    (pos (k.number s * (unit * x.denominator ^ 3)))

-- the corners of a row decide every setting in the box: a claim, whichever, and a chance
abbrev pub CornersDecide : Type 0
CornersDecide = (states rates unit G : ℕ) (b : Box) (r : Row) → LawfulRow states rates unit r → Proper rates G b
    → (x : Setting) → Inside rates G b x
    → ((k : Said) (s : ℕ) → ((g : ℕ → ℕ) → Corner b r g → Kept k unit G r s g) → KeptExactly k unit r s x)
    × ((e : Edge) → ((g : ℕ → ℕ) → Corner b r g → Possible G g r e) → pos 0 ≤ℤ exact x.numerator x.denominator r e)

-- a safe witness keeps the chance to the limit, at every setting in the box and for every number of steps
abbrev pub SafeIsSafe : Type 0
SafeIsSafe = (c : Meaning) (G L : ℕ) (b : Box) (v : List ℕ) → Lawful c → Proper c.rates G b → SafeWitness c G b L v
    → (x : Setting) → Inside c.rates G b x → (k : ℕ) → KeepsTo c L x k

-- an unsafe witness exceeds the limit within its step number, at every setting in the box
abbrev pub UnsafeIsUnsafe : Type 0
UnsafeIsUnsafe = (c : Meaning) (G L : ℕ) (b : Box) (v w : List ℕ) → Lawful c → Proper c.rates G b → UnsafeWitness c G b L v w
    → (x : Setting) → Inside c.rates G b x → Exceeds c L x (step_number c L v w)

-- a witness is taken exactly when its conditions hold at every corner, and then with its bound and step number
abbrev pub SafeTakenExactly : Type 0
SafeTakenExactly = (c : Meaning) (G L : ℕ) (b : Box) (v : List ℕ)
    → (is_ok (safe_answer c G b L v) ≡ true → SafeWitness c G b L v)
    × (SafeWitness c G b L v → safe_answer c G b L v ≡ Ok (Safe (at v c.start)))

abbrev pub UnsafeTakenExactly : Type 0
UnsafeTakenExactly = (c : Meaning) (G L : ℕ) (b : Box) (v w : List ℕ)
    → (is_ok (unsafe_answer c G b L v w) ≡ true → UnsafeWitness c G b L v w)
    × (UnsafeWitness c G b L v w → unsafe_answer c G b L v w ≡ Ok (Unsafe (at v c.start) (step_number c L v w)))
