use Rattle.std.proofs.Common.{rules, arith}
use Rattle.chain_format.specs.Format.{version1}
use Rattle.chain_format.proofs.Written.{rows_to_none, rows_to_more}
use Rattle.chain_writer.proofs.Lengths.{rows_short}
use Rattle.chain_writer.proofs.sections.RowsEncode.encode.Goals as goal

pub loop-state-init : goal.loop-state-init
loop-state-init g c = rw (rows_to_none version1 (g.C.Chain.meaning c.args.self.now.chain.now)) (g.met.S.Sink.none _)

pub loop-state-preserved : goal.loop-state-preserved
loop-state-preserved g c =
    rw (rows_to_more version1 (g.C.Chain.meaning c.args.self.now.chain.now) c.loop-state.state) (search rules)

pub returns-clause-within : goal.returns-clause-within
returns-clause-within g c =
    let m = g.C.Chain.meaning c.args.self.now.chain.now in
    rows_short m (g.C.Chain.lawful c.args.self.now.chain.now) m.states (omega arith)
