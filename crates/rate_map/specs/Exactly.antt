-- When a map takes a witness.
use Rattle.std.specs.Prelude.{◌≡◌, ℕ, ◌<◌, true, length, Ok}
use Rattle.chain.specs.Chains.{Meaning}
use Rattle.theory.specs.Maps.{MapValue, box_at, is_open}
use Rattle.rate_map.specs.Calls.{region_of}

-- the box is there, is open, and is one that may exist
pub record OpenBox (c : Meaning) (m : MapValue) (i : ℕ) : Type 0 where
  pub there : i < length m.boxes
  pub unjudged : is_open (box_at m.boxes i).verdict ≡ true
  pub proper : region_of c m i ≡ Ok tt
