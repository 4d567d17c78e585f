-- The exact chance of a bad state within a number of steps, at a setting.
use Rattle.std.specs.Prelude.{ℕ, zero, suc, ◌*◌, ◌^◌, cond, ℤ, pos, ◌*ℤ◌, ◌≤ℤ◌, ◌<ℤ◌}
use Rattle.chain.specs.Chains.{Meaning, bad}
use Rattle.theory.specs.Words.{◌·◌, sumℤ}
use Rattle.theory.specs.Values.{exact}
use Rattle.theory.specs.Boxes.{Setting}

abbrev pub million : ℕ
million = 1000000

-- the unit of a chance at a setting
abbrev pub whole : Meaning → Setting → ℕ
whole c x = c.unit * x.denominator ^ 3

-- the chance to have met a bad state within k steps from s, in units of 1 / whole ^ k
abbrev pub reach : Meaning → Setting → ℕ → ℕ → ℤ
reach c x zero s = cond (bad c s) (pos 1) (pos 0)
reach c x (suc k) s = cond (bad c s) (pos (whole c x ^ suc k))
    (sumℤ (λ e. exact x.numerator x.denominator (c.row s) e *ℤ reach c x k e.successor) (c.row s).edges)

-- the chance within k steps from the start is at most the limit, in millionths; or is above it
abbrev pub KeepsTo : Meaning → ℕ → Setting → ℕ → Type 0
KeepsTo c L x k = (million · reach c x k c.start) ≤ℤ pos (L * whole c x ^ k)

abbrev pub Exceeds : Meaning → ℕ → Setting → ℕ → Type 0
Exceeds c L x k = pos (L * whole c x ^ k) <ℤ (million · reach c x k c.start)
