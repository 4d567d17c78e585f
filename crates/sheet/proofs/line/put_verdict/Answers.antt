use Rattle.std.proofs.Common.{ap}
use Rattle.sheet.specs.Sheet.{verdict_words}
use Rattle.sheet.proofs.line.put_verdict.Goals as goal

pub returns-in-Unsafe-clause-taken : goal.returns-in-Unsafe-clause-taken
returns-in-Unsafe-clause-taken g c =
    rw (ap verdict_words c.in-Unsafe.is) (g.met.S.Sink.more _ _ _ _ _ c.put_word-in-Unsafe.ensures.taken c.put_spaced.ensures.taken)
