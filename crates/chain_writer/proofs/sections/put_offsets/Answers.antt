use Rattle.std.proofs.Common.{length, sym, ap, arith}
use Rattle.chain_format.specs.Format.{version1}
use Rattle.chain_format.proofs.Written.{rows_to_none, offsets_to_none, offsets_to_more}
use Rattle.chain_writer.proofs.Lengths.{length-rows_to_more, rows_short}
use Rattle.chain_writer.proofs.sections.put_offsets.Goals as goal

pub loop-state-init : goal.loop-state-init
loop-state-init g c =
    let m = g.C.Chain.meaning c.args.chain.now in
    (sym (ap length (rows_to_none version1 m)), rw (offsets_to_none version1 m) (g.met.S.Sink.none _))

pub overflow_add-offset : goal.overflow_add-offset
overflow_add-offset g c =
    let l = g.C.Chain.lawful c.args.chain.now in
    let before = rows_short _ l c.loop-state.state (omega (arith, c.states-state-end.ensures)) in
    omega (arith, c.length.ensures.exact, c.length.ensures.within, c.loop-state.invariant.0, c.states-state-end.ensures, l.states_few)

pub loop-state-preserved : goal.loop-state-preserved
loop-state-preserved g c =
    let m = g.C.Chain.meaning c.args.chain.now in
    let i = c.loop-state.state in (
      omega (arith, c.length.ensures.exact, c.length.ensures.within, c.loop-state.invariant.0, length-rows_to_more m i),
      rw (offsets_to_more version1 m i) (g.met.S.Sink.more _ _ _ _ _ c.loop-state.invariant.1 (rw c.loop-state.invariant.0 at c.put_number.ensures)),
    )
