-- What a chain is, and the rules and limits that every chain keeps.
use Rattle.std.specs.Prelude.{◌≡◌, ℕ, ◌+◌, ◌^◌, ◌<◌, ◌≤◌, Bool, cond, List, [], ◌∷◌, map, length, ℤ, pos, negsuc, ◌+ℤ◌, ◌≤ℤ◌, ◌==◌, slice_index_or}
use Rattle.std.specs.List.{AllByRecursion}

-- an edge: the state that it leads to, and the coefficients of its chance. Number i belongs to the product of those rates of the row whose bit is set in i, and bit 0 stands for the row's first rate
pub record Edge : Type 0 where
  pub successor : ℕ
  pub coefficients : List ℤ

-- a row: the rates that it names, and its edges
pub record Row : Type 0 where
  pub rates : List ℕ
  pub edges : List Edge

-- a chain. States and rates are numbered from 0; a chance is a sum of coefficients times products of rates, divided by the unit
pub record Meaning : Type 0 where
  pub states : ℕ
  pub rates : ℕ
  pub unit : ℕ
  pub start : ℕ
  pub mark : ℕ → ℕ
  pub row : ℕ → Row

-- a state is bad where its mark is 1
abbrev pub bad : Meaning → ℕ → Bool
bad c s = c.mark s == 1

-- the row of a state that loops: it names no rate, and its one edge leads to the state itself
abbrev pub looping : ℕ → ℕ → Row
looping unit s = record { rates = []; edges = record { successor = s; coefficients = pos unit ∷ [] } ∷ [] }

abbrev pub most_states : ℕ
most_states = 4096

-- ---- rules and limits
-- strictly ascending numbers, all at least low and below top
abbrev pub Ascends : ℕ → ℕ → List ℕ → Type 0
Ascends low top [] = Unit {0}
Ascends low top (x ∷ xs) = (low ≤ x) × (x < top) × Ascends (x + 1) top xs

-- the sum of the coefficients number i over a row's edges, and what it has to be
abbrev pub total : ℕ → List Edge → ℤ
total i [] = pos 0
total i (e ∷ es) = slice_index_or e.coefficients i (pos 0) +ℤ total i es

abbrev pub due : ℕ → ℕ → ℤ
due unit i = cond (i == 0) (pos unit) (pos 0)

-- a coefficient is from -8000 to 8000
abbrev pub Limited : ℤ → Type 0
Limited z = (negsuc 7999 ≤ℤ z) × (z ≤ℤ pos 8000)

pub record LawfulEdge (size : ℕ) (e : Edge) : Type 0 where
  pub many : length e.coefficients ≡ size
  pub limits : AllByRecursion Limited e.coefficients

pub record LawfulRow (states rates unit : ℕ) (r : Row) : Type 0 where
  pub rates_few : length r.rates ≤ 3
  pub rates_rise : Ascends 0 rates r.rates
  pub edges_some : 1 ≤ length r.edges
  pub edges_few : length r.edges ≤ 8
  pub edges_rise : Ascends 0 states (map (λ e. e.successor) r.edges)
  pub edges_lawful : AllByRecursion (LawfulEdge (2 ^ length r.rates)) r.edges
  pub sums : (i : ℕ) → i < 2 ^ length r.rates → total i r.edges ≡ due unit i

pub record Lawful (c : Meaning) : Type 0 where
  pub states_some : 1 ≤ c.states
  pub states_few : c.states ≤ most_states
  pub rates_some : 1 ≤ c.rates
  pub rates_few : c.rates ≤ 4
  pub unit_some : 1 ≤ c.unit
  pub unit_few : c.unit ≤ 1000
  pub starts : c.start < c.states
  pub marks : (s : ℕ) → s < c.states → c.mark s ≤ 1
  pub rows : (s : ℕ) → s < c.states → LawfulRow c.states c.rates c.unit (c.row s)
