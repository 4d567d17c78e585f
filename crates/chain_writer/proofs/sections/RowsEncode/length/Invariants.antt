use Rattle.std.proofs.Common.{◌≡◌, length}
use Rattle.chain_format.specs.Format.{version1}
use Rattle.chain_format.proofs.Written.{rows_to}
use Rattle.chain_writer.proofs.sections.RowsEncode.length.Given as goal

abbrev pub invariant-loop-state : goal.invariant-loop-state
invariant-loop-state g l = l.size ≡ length (rows_to version1 (g.C.Chain.meaning l.chain) l.state)
