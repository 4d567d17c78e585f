-- Two chains with the same numbers, marks and rows.
use Rattle.std.specs.Prelude.{◌≡◌, ℕ, ◌<◌}
use Rattle.chain.specs.Chains.{Meaning}

pub record Same (c d : Meaning) : Type 0 where
  pub states : c.states ≡ d.states
  pub rates : c.rates ≡ d.rates
  pub unit : c.unit ≡ d.unit
  pub start : c.start ≡ d.start
  pub mark : (s : ℕ) → s < c.states → c.mark s ≡ d.mark s
  pub row : (s : ℕ) → s < c.states → c.row s ≡ d.row s
