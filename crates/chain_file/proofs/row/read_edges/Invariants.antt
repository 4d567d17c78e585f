use Rattle.std.proofs.Common.{◌≡◌, ◌+◌, ◌*◌, ◌≤◌, List, map, take}
use Rattle.chain.specs.Chains.{Edge}
use Rattle.chain.specs.Filled.{filled_edge}
use Rattle.chain_format.specs.Format.{version1, edge}
use Rattle.chain_format.proofs.Loops.{Took}
use Rattle.chain_file.specs.Parts.{part_of}
use Rattle.chain_file.proofs.row.read_edges.Given as goal

abbrev pub invariant-loop-place : goal.invariant-loop-place
invariant-loop-place l = record {
  same : part_of l.part ≡ part_of l.fn.part;
  near : l.part.at ≤ l.fn.part.at + 18 * l.place-index;
  took : (es : List Edge)
      × Took (edge version1 (part_of l.fn.part) l.states l.size) (λ _ e. e.successor + 1) 0 l.fn.part.at l.place-index l.low l.part.at es
      × (take l.place-index l.into ≡ map filled_edge es);
}
