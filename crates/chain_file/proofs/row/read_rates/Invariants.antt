use Rattle.std.proofs.Common.{◌≡◌, ◌+◌, ◌≤◌, take}
use Rattle.chain_format.specs.Format.{rate}
use Rattle.chain_format.proofs.Loops.{Took}
use Rattle.chain_file.specs.Parts.{part_of}
use Rattle.chain_file.proofs.row.read_rates.Given as goal

abbrev pub invariant-loop-place : goal.invariant-loop-place
invariant-loop-place l = record {
  same : part_of l.part ≡ part_of l.fn.part;
  near : l.part.at ≤ l.fn.part.at + l.place-index;
  took : Took (rate (part_of l.fn.part) l.rates) (λ _ x. x + 1) 0 l.fn.part.at l.place-index l.low l.part.at (take l.place-index l.into);
}
