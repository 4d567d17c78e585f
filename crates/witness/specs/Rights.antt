-- What a witness that is taken shows of its verdict.
use Rattle.std.specs.Prelude.{ℕ, List}
use Rattle.std.proofs.Common.{arith}
use Rattle.chain.specs.Chains.{Meaning}
use Rattle.theory.specs.declared.verdict.Verdict.TheVariants.{Safe, Unsafe}
use Rattle.theory.specs.Boxes.{Box}
use Rattle.theory.specs.Witness.{SafeWitness, UnsafeWitness, at, step_number}
use Rattle.theory.proofs.Sound.{safe_is_safe, unsafe_is_unsafe}
use Rattle.witness.specs.Judged.{Shows}

pub safe_right : (c : Meaning) (G : ℕ) (b : Box) (L : ℕ) (v : List ℕ) → Shows c G b L (SafeWitness c G b L v) (Safe (at v c.start))
safe_right c G b L v lawful proper p x inside =
    let own : SafeWitness c G b (at v c.start) v
    = record { numbers = p.numbers; full = p.full; chances = p.chances; at_most = p.at_most; begins = omega arith } in
    (p.begins, safe_is_safe c G (at v c.start) b v lawful proper own x inside, safe_is_safe c G L b v lawful proper p x inside)

pub unsafe_right : (c : Meaning) (G : ℕ) (b : Box) (L : ℕ) (v w : List ℕ) → Shows c G b L (UnsafeWitness c G b L v w) (Unsafe (at v c.start) (step_number c L v w))
unsafe_right c G b L v w lawful proper p x inside = (p.begins, unsafe_is_unsafe c G L b v w lawful proper p x inside)
