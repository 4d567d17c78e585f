use Rattle.std.proofs.Common.{take}
use Rattle.chain_format.specs.Reader.{spell, each, stay}
use Rattle.chain_format.specs.Format.{version1}
use Rattle.chain_writer.specs.Wrote.{edge_record_bytes}
use Rattle.chain_writer.proofs.row.put_row.Given as goal

abbrev pub invariant-loop-edge : goal.invariant-loop-edge
invariant-loop-edge g l =
    g.S.Sink.Takes l.initial.sink (spell (each (edge_record_bytes version1 l.size)) stay 0 (take l.edge-index l.edge-items)) l.sink
