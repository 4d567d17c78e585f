use Rattle.std.proofs.Common.{◌≡◌, ◌+◌, ◌*◌, ◌^◌, ◌≤◌, take}
use Rattle.chain_format.specs.Format.{entry, next_entry}
use Rattle.chain_format.proofs.Loops.{Took}
use Rattle.chain_file.specs.Parts.{part_of}
use Rattle.chain_file.proofs.contents.read_entries.Given as goal

abbrev pub invariant-loop-place : goal.invariant-loop-place
invariant-loop-place l = record {
  same : part_of l.part ≡ part_of l.fn.part;
  moved : l.part.at ≡ l.fn.part.at + 10 * l.place-index;
  kinds : l.kind ≡ 1 + l.place-index;
  room : l.offset ≤ 44 + 2 ^ 32 * l.place-index;
  took : Took (entry (part_of l.fn.part)) next_entry (1, 44) l.fn.part.at l.place-index (l.kind, l.offset) l.part.at (take l.place-index l.into);
}
