use Rattle.std.proofs.Common.{take}
use Rattle.chain_writer.proofs.bytes.put_number.Given as goal

abbrev pub invariant-loop-byte : goal.invariant-loop-byte
invariant-loop-byte g l = g.S.Sink.Takes l.initial.sink (take l.byte-index l.byte-items) l.sink
