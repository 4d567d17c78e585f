-- A safe witness is tried as its numbers twice.
use Rattle.std.proofs.Common.{◌≡◌, ℕ, Bool, true, false, not, ◌&&◌, ◌||◌, eqb, leb, List, length, Result, refl}
use mathlib.Core.Path.{fun_ext}
use Rattle.chain.specs.Chains.{Meaning, bad}
use Rattle.chain.specs.declared.refusal.Refusal.{Refusal}
use Rattle.chain.specs.declared.refusal.Refusal.TheVariants.{BadLength, BadNumber, BadChance}
use Rattle.theory.specs.Words.{lowest}
use Rattle.theory.specs.Witness.{at}
use Rattle.theory.specs.Answers.{need, each, number_ok, numbers_ok, chance_ok}
use Rattle.witness.specs.declared.region.Region.{Region}
use Rattle.witness.specs.Regions.{box_of}
use Rattle.witness.specs.Judged.{judged, tried}

both : (a : Bool) → (a && a) ≡ a
both true = refl
both false = refl

numbers_same : (c : Meaning) (v : List ℕ) → numbers_ok c v v ≡ number_ok c v
numbers_same c v = fun_ext λ s. twice (leb (at v s) 1000000) (not (bad c s) || eqb (at v s) 1000000)
  where
    twice : (a b : Bool) → ((a && b) && a) ≡ (a && b)
    twice true true = refl
    twice true false = refl
    twice false b = refl

pub tried_twice : {A : Type 0} (c : Meaning) (r : Region) (v : List ℕ) (next : Result A Refusal) → tried c r v v next ≡
    judged c r
    (need (eqb (length v) c.states) BadLength
    (each (lowest (number_ok c v) c.states) BadNumber
    (each (lowest (chance_ok c r.grid (box_of r)) c.states) BadChance next)))
tried_twice c r v next = rw (both (eqb (length v) c.states), numbers_same c v)
