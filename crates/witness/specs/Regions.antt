-- The region that a call builds, as a box on a grid, and what is refused.
use Rattle.std.specs.Prelude.{◌≡◌, ℕ, ◌&&◌, List, Ok, Result, nat_le}
use Rattle.chain.specs.declared.refusal.Refusal.{Refusal}
use Rattle.chain.specs.declared.refusal.Refusal.TheVariants.{BadGrid, BadField}
use Rattle.theory.specs.Words.{passes}
use Rattle.theory.specs.Boxes.{Box}
use Rattle.theory.specs.Witness.{at}
use Rattle.theory.specs.Answers.{need}
use Rattle.theory.specs.Maps.{side_ok}
use Rattle.witness.specs.declared.region.Region.{Region}

-- the box of a region
abbrev pub box_of : Region → Box
box_of r = record { low = at r.low; high = at r.high }

-- what is refused: the grid, then the sides or their count
abbrev pub region_answer : ℕ → ℕ → List ℕ → List ℕ → Result (Unit {0}) Refusal
region_answer G rates low high =
    need (nat_le 1 G && nat_le G 1000) BadGrid
    (need (nat_le 1 rates && nat_le rates 4 && passes (side_ok G low high) rates) BadField
    (Ok tt))

-- a region with just these numbers, which are not refused
pub record Laid (G m : ℕ) (l h : List ℕ) (r : Region) : Type 0 where
  pub taken : region_answer G m l h ≡ Ok tt
  pub grid : r.grid ≡ G
  pub rates : r.rates ≡ m
  pub low : r.low ≡ l
  pub high : r.high ≡ h
