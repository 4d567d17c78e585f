use Rattle.std.proofs.Common.{length, sym, ap, arith}
use Rattle.chain_format.specs.Format.{version1}
use Rattle.chain_format.proofs.Written.{rows_to_none}
use Rattle.chain_writer.proofs.Lengths.{length-rows_to_more, rows_short}
use Rattle.chain_writer.proofs.sections.RowsEncode.length.Goals as goal

pub loop-state-init : goal.loop-state-init
loop-state-init g c = sym (ap length (rows_to_none version1 (g.C.Chain.meaning c.args.self.now.chain.now)))

pub overflow_add-size : goal.overflow_add-size
overflow_add-size g c =
    let l = g.C.Chain.lawful c.args.self.now.chain.now in
    let before = rows_short _ l c.loop-state.state (omega (arith, c.states-state-end.ensures)) in
    omega (arith, c.length-size.ensures.exact, c.length-size.ensures.within, c.loop-state.invariant, before, c.states-state-end.ensures, l.states_few)

pub loop-state-preserved : goal.loop-state-preserved
loop-state-preserved g c =
    let m = g.C.Chain.meaning c.args.self.now.chain.now in
    omega (arith, c.length-size.ensures.exact, c.length-size.ensures.within, c.loop-state.invariant, length-rows_to_more m c.loop-state.state)

pub returns-clause-within : goal.returns-clause-within
returns-clause-within g c =
    let m = g.C.Chain.meaning c.args.self.now.chain.now in
    rows_short m (g.C.Chain.lawful c.args.self.now.chain.now) m.states (omega arith)
