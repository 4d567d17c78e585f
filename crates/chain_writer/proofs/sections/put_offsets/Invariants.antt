use Rattle.std.proofs.Common.{◌≡◌, length}
use Rattle.chain_format.specs.Format.{version1}
use Rattle.chain_format.proofs.Written.{rows_to, offsets_to}
use Rattle.chain_writer.proofs.sections.put_offsets.Given as goal

abbrev pub invariant-loop-state : goal.invariant-loop-state
invariant-loop-state g l =
    (l.offset ≡ length (rows_to version1 (g.C.Chain.meaning l.chain) l.state))
    × g.S.Sink.Takes l.initial.sink (offsets_to version1 (g.C.Chain.meaning l.chain) l.state) l.sink
