use Rattle.std.proofs.Common.{◌≡◌, ◌+◌, ◌*◌, ◌≤◌}
use Rattle.chain_format.specs.Format.{version1, row}
use Rattle.chain_format.proofs.Loops.{Reached}
use Rattle.chain_file.specs.Parts.{part_of}
use Rattle.chain_file.proofs.check.check_rows.Given as goal

abbrev pub invariant-loop-s : goal.invariant-loop-s
invariant-loop-s l = record {
  same : part_of l.part ≡ part_of l.fn.part;
  near : l.part.at ≤ l.offsets + 4 * l.n.states + 149 * l.s;
  reached : Reached (row version1 (part_of l.fn.part) l.offsets (l.offsets + 4 * l.n.states) l.n.states l.n.rates l.n.unit) (λ s _. s + 1)
      0 (l.offsets + 4 * l.n.states) l.s l.s l.part.at;
}
