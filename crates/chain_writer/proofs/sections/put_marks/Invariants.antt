use Rattle.std.proofs.Common.{map}
use Rattle.std.specs.List.{range_with_len}
use Rattle.chain_format.specs.Format.{marks_bytes}
use Rattle.chain_writer.proofs.sections.put_marks.Given as goal

abbrev pub invariant-loop-state : goal.invariant-loop-state
invariant-loop-state g l = g.S.Sink.Takes l.initial.sink (marks_bytes (map (g.C.Chain.meaning l.chain).mark (range_with_len 0 l.state))) l.sink
