use Rattle.sheet.proofs.line.put_spaced.Goals as goal

pub returns-clause-taken : goal.returns-clause-taken
returns-clause-taken g c = g.met.S.Sink.more _ _ _ _ _ c.put_byte.ensures c.put_number.ensures.taken
