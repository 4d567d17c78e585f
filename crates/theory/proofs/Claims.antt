-- The conditions of a witness as claims.
use Rattle.std.proofs.Common.{◌≡◌, ℕ, ◌*◌, ◌<◌, Bool, true, false, not, ◌&&◌, ltb, List, ℤ, pos, ◌+ℤ◌, Decides, ap, ◌∙◌, one-mul, zero-mul}
use lib.IntN.{+ℤ_idl}
use Rattle.std.proofs.lemmas.Bool.{not-true, not_from_false}
use Rattle.std.proofs.lemmas.Bool.Decides.{Decides-and, Decides-ltb}
use Rattle.chain.specs.Chains.{Meaning, bad}
use Rattle.theory.specs.Boxes.{Box, Corner}
use Rattle.theory.specs.Witness.{Said, Kept, at, at_most, at_least, steps, SafeWitness, UnsafeWitness}

-- a claim at every corner of the row of every state that it tests
abbrev pub Claimed : Said → Meaning → ℕ → Box → Type 0
Claimed k c G b = (s : ℕ) → s < c.states → k.tests (bad c s) s ≡ true → (g : ℕ → ℕ) → Corner b (c.row s) g → Kept k c.unit G (c.row s) s g

-- what a claim adds, 0 or 1 times the unit
pub adds_none : (u : ℕ) (z : ℤ) → pos (0 * u) +ℤ z ≡ z
adds_none u z = ap (λ n. pos n +ℤ z) (zero-mul u) ∙ +ℤ_idl z

pub adds_one : (u : ℕ) (z : ℤ) → pos (1 * u) +ℤ z ≡ pos u +ℤ z
adds_one u z = ap (λ n. pos n +ℤ z) (one-mul u)

-- the states that an unsafe witness is tested at
pub tested : (t : Bool) (n : ℕ) → Decides (not t && ltb 0 n) ((t ≡ false) × (0 < n))
tested t n = Decides-and (not t) (ltb 0 n) (not-true t, not_from_false t) (Decides-ltb 0 n)

module _ {c : Meaning} {G L : ℕ} {b : Box} {v : List ℕ} where
  pub at_most_lem : SafeWitness c G b L v → Claimed (at_most (at v)) c G b
  at_most_lem u s h t g i = rw adds_none (u.at_most s h g i (not-true _ t))

  module _ {w : List ℕ} where
    pub at_least_lem : UnsafeWitness c G b L v w → Claimed (at_least (at v)) c G b
    at_least_lem u s h t g i = let p = (tested _ _).0 t in rw adds_none (u.at_least s h g i p.0 p.1)

    pub in_steps : UnsafeWitness c G b L v w → Claimed (steps (at v) (at w)) c G b
    in_steps u s h t g i = let p = (tested _ _).0 t in rw adds_one (u.steps s h g i p.0 p.1)
