-- The conditions on a witness, at every corner of every row.
use Rattle.std.specs.Prelude.{◌≡◌, ℕ, ◌+◌, ◌-◌, ◌*◌, ◌/◌, ◌^◌, ◌<◌, ◌≤◌, Bool, true, false, not, ◌&&◌, List, length, ℤ, pos, ◌+ℤ◌, ◌≤ℤ◌, nat_lt, slice_index}
use Rattle.std.specs.List.{AllByRecursion}
use Rattle.chain.specs.Chains.{Meaning, Row, Edge, bad}
use Rattle.theory.specs.Words.{◌·◌, sumℤ}
use Rattle.theory.specs.Values.{named, value}
use Rattle.theory.specs.Boxes.{Box, Corner}
use Rattle.theory.specs.Chance.{million}

-- the number that a witness gives a state
abbrev pub at : List ℕ → ℕ → ℕ
at v s = slice_index v s

-- the unit of the values of a row on the grid G
abbrev pub scale : ℕ → ℕ → Row → ℕ
scale unit G r = unit * G ^ named r

-- the sum of an edge's value times x at its successor
abbrev pub mean : ℕ → (ℕ → ℕ) → Row → (ℕ → ℕ) → ℤ
mean G g r x = sumℤ (λ e. x e.successor · value G g r e) r.edges

abbrev pub AtCorners : Meaning → Box → (ℕ → (ℕ → ℕ) → Type 0) → Type 0
AtCorners c b P = (s : ℕ) → s < c.states → (g : ℕ → ℕ) → Corner b (c.row s) g → P s g

-- an edge's value is the chance of something
abbrev pub Possible : ℕ → (ℕ → ℕ) → Row → Edge → Type 0
Possible G g r e = pos 0 ≤ℤ value G g r e

abbrev pub Chances : Meaning → ℕ → Box → Type 0
Chances c G b = AtCorners c b (λ s g. AllByRecursion (Possible G g (c.row s)) (c.row s).edges)

-- numbers of at most a million, one for each state; v of a bad state is exactly that
pub record Numbers (c : Meaning) (v : List ℕ) : Type 0 where
  pub many : length v ≡ c.states
  pub most : (s : ℕ) → s < c.states → at v s ≤ million

abbrev pub Full : Meaning → List ℕ → Type 0
Full c v = (s : ℕ) → s < c.states → bad c s ≡ true → at v s ≡ million

pub record SafeWitness (c : Meaning) (G : ℕ) (b : Box) (L : ℕ) (v : List ℕ) : Type 0 where
  pub numbers : Numbers c v
  pub full : Full c v
  pub chances : Chances c G b
  pub at_most : AtCorners c b (λ s g. bad c s ≡ false
      → mean G g (c.row s) (at v) ≤ℤ pos (at v s * scale c.unit G (c.row s)))
  pub begins : at v c.start ≤ L

pub record UnsafeWitness (c : Meaning) (G : ℕ) (b : Box) (L : ℕ) (v w : List ℕ) : Type 0 where
  pub numbers : Numbers c v
  pub rounds : Numbers c w
  pub full : Full c v
  pub chances : Chances c G b
  pub at_least : AtCorners c b (λ s g. bad c s ≡ false → 0 < at v s
      → pos (at v s * scale c.unit G (c.row s)) ≤ℤ mean G g (c.row s) (at v))
  pub steps : AtCorners c b (λ s g. bad c s ≡ false → 0 < at v s
      → (pos (scale c.unit G (c.row s)) +ℤ mean G g (c.row s) (at w)) ≤ℤ pos (at w s * scale c.unit G (c.row s)))
  pub begins : L < at v c.start

-- within how many steps an unsafe witness shows the limit exceeded
abbrev pub step_number : Meaning → ℕ → List ℕ → List ℕ → ℕ
step_number c L v w = million * at w c.start / (at v c.start - L) + 1

-- ---- any claim
-- a claim says which states it tests, told whether the state is bad; what number it gives a state; what it adds each step at the state under test; and whether it compares by at most or by at least
pub record Said : Type 0 where
  pub tests : Bool → ℕ → Bool
  pub number : ℕ → ℕ
  pub adds : ℕ → ℕ
  pub most : Bool

abbrev pub InOrder : Bool → ℤ → ℤ → Type 0
InOrder true x y = x ≤ℤ y
InOrder false x y = y ≤ℤ x

-- the claim at a corner of the row of a state
abbrev pub Kept : Said → ℕ → ℕ → Row → ℕ → (ℕ → ℕ) → Type 0
Kept k unit G r s g = InOrder k.most
    (pos (k.adds s * scale unit G r) +ℤ mean G g r k.number) (pos (k.number s * scale unit G r))

abbrev pub at_most : (ℕ → ℕ) → Said
at_most v = record { tests = λ is_bad s. not is_bad; number = v; adds = λ s. 0; most = true }

abbrev pub at_least : (ℕ → ℕ) → Said
at_least v = record { tests = λ is_bad s. not is_bad && nat_lt 0 (v s); number = v; adds = λ s. 0; most = false }

abbrev pub steps : (ℕ → ℕ) → (ℕ → ℕ) → Said
steps v w = record { tests = λ is_bad s. not is_bad && nat_lt 0 (v s); number = w; adds = λ s. 1; most = true }
