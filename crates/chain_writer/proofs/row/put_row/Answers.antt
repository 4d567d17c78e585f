use Rattle.std.proofs.Common.{[], rules, arith}
use Rattle.std.proofs.Math.Pow.{pow_mono}
use Rattle.chain.specs.declared.record.EdgeRecord.{EdgeRecord}
use Rattle.chain_format.specs.Format.{version1}
use Rattle.chain_format.proofs.Written.{spell_none}
use Rattle.chain_writer.specs.Wrote.{edge_record_bytes}
use Rattle.chain_writer.proofs.Records.{spell-take_more}
use Rattle.chain_writer.proofs.row.put_row.Goals as goal

pub pow-size-requires : goal.pow-size-requires
pow-size-requires g c = omega (arith, pow_mono c.requires)

pub loop-edge-init : goal.loop-edge-init
loop-edge-init g c = rw spell_none (g.met.S.Sink.none _)

pub put_edge-requires : goal.put_edge-requires
put_edge-requires g c = omega (arith, pow_mono c.requires, c.pow-size.ensures)

pub loop-edge-preserved : goal.loop-edge-preserved
loop-edge-preserved g c =
    let none : EdgeRecord = record { successor = 0; coefficients = [] } in
    rw (spell-take_more (edge_record_bytes version1 c.pow-size.result) c.edges-edge-items.result.now c.loop-edge.edge-index none c.loop-edge-test.true)
    (search rules)
