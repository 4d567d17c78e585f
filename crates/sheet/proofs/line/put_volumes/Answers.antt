use Rattle.sheet.proofs.line.put_volumes.Goals as goal

pub returns-clause-taken : goal.returns-clause-taken
returns-clause-taken g c =
    let more = g.met.S.Sink.more in
    more _ _ _ _ _ c.put_number.ensures.taken
    (more _ _ _ _ _ c.put_spaced.ensures.taken (more _ _ _ _ _ c.put_spaced-2.ensures.taken c.put_byte.ensures))
