use Rattle.chain_format.specs.Format.{version1}
use Rattle.chain_format.proofs.Written.{rows_to}
use Rattle.chain_writer.proofs.sections.RowsEncode.encode.Given as goal

abbrev pub invariant-loop-state : goal.invariant-loop-state
invariant-loop-state g l = g.S.Sink.Takes l.initial.sink (rows_to version1 (g.C.Chain.meaning l.chain) l.state) l.sink
