use Rattle.std.proofs.Common.{◌≡◌, ◌+◌, ◌*◌, ◌≤◌, take}
use Rattle.chain_format.specs.Reader.{stay}
use Rattle.chain_format.specs.Format.{coefficient}
use Rattle.chain_format.proofs.Loops.{Took}
use Rattle.chain_file.specs.Parts.{part_of}
use Rattle.chain_file.proofs.row.read_coefficients.Given as goal

abbrev pub invariant-loop-place : goal.invariant-loop-place
invariant-loop-place l = record {
  same : part_of l.part ≡ part_of l.fn.part;
  near : l.part.at ≤ l.fn.part.at + 2 * l.place-index;
  took : Took (λ _. coefficient (part_of l.fn.part)) stay 0 l.fn.part.at l.place-index 0 l.part.at (take l.place-index l.into);
}
