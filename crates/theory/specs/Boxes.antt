-- Boxes of rates on a grid, their corners, and the settings in them.
use Rattle.std.specs.Prelude.{◌≡◌, ℕ, ◌*◌, ◌<◌, ◌≤◌, cond, ◌⊎◌, ◌==◌}
use Rattle.chain.specs.Chains.{Row}
use Rattle.theory.specs.Values.{named, of, bit}

-- a box: for each rate a low and a high grid number. On the grid G the number g is the rate g / G
pub record Box : Type 0 where
  pub low : ℕ → ℕ
  pub high : ℕ → ℕ

-- a box that may exist: each of its sides is at least one wide and lies on the grid
pub record Proper (rates G : ℕ) (b : Box) : Type 0 where
  pub grid : 1 ≤ G
  pub wide : (r : ℕ) → r < rates → b.low r < b.high r
  pub within : (r : ℕ) → r < rates → b.high r ≤ G

-- a setting: a whole numerator for each rate over one whole denominator of at least 1
pub record Setting : Type 0 where
  pub numerator : ℕ → ℕ
  pub denominator : ℕ
  pub some : 1 ≤ denominator

-- a setting lies in a box
abbrev pub Inside : ℕ → ℕ → Box → Setting → Type 0
Inside rates G b x = (r : ℕ) → r < rates
    → (b.low r * x.denominator ≤ G * x.numerator r) × (G * x.numerator r ≤ b.high r * x.denominator)

-- a corner of a row puts each of the row's rates at the box's low or high: an action of the row in the chain whose rates are substituted by the box's bounds. The edge's value there is the transition of that action
abbrev pub Corner : Box → Row → (ℕ → ℕ) → Type 0
Corner b r g = (p : ℕ) → p < named r → (g p ≡ of b.low r p) ⊎ (g p ≡ of b.high r p)

-- the corners of a row by number, below 2 ^ named r: bit p of the number is set where the row's rate number p is high
abbrev pub corner_of : Box → Row → ℕ → ℕ → ℕ
corner_of b r t p = cond (bit p t == 1) (of b.high r p) (of b.low r p)
