use Rattle.std.proofs.Common.{ℕ, arith}
use Rattle.chain_format.specs.Reader.{bytes_of, stay}
use Rattle.chain_format.proofs.Written.{spell_none, counted_push}
use Rattle.chain_writer.proofs.sections.put_marks.Goals as goal
use Rattle.chain_writer.proofs.sections.put_marks.Goals.{in-Ok, in_default}

pub loop-state-init : goal.loop-state-init
loop-state-init g c = rw spell_none (g.met.S.Sink.none _)

pub loop-state-preserved : goal.loop-state-preserved
loop-state-preserved g c =
    let f : ℕ → ℕ = (g.C.Chain.meaning c.args.chain.now).mark in
    rw (counted_push (bytes_of 1) stay f c.loop-state.state)
    (elim c.match-mark.branch [
      | in-Ok w ↦ rw (w.sink-is, ← w.in-Ok.ensures.1) (g.met.S.Sink.more _ _ _ _ _ c.loop-state.invariant w.put_number.ensures)
      | in_default w ↦ absurd (omega (arith, w.in_default.ensures.0, c.states-state-end.ensures))
    ])
