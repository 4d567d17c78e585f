use Rattle.sheet.proofs.line.put_refusal.Goals as goal

pub returns-clause-taken : goal.returns-clause-taken
returns-clause-taken g c =
    let more = g.met.S.Sink.more in
    rw (← c.number.ensures, ← c.place.ensures)
    (more _ _ _ _ _ c.put_word.ensures.taken (more _ _ _ _ _ c.put_spaced.ensures.taken c.put_byte.ensures))
