use Rattle.std.proofs.lemmas.List.{append-nil}
use Rattle.chain_format.proofs.Written.{encode-split}
use Rattle.chain_writer.proofs.Lengths.{encode_short}
use Rattle.chain_writer.proofs.file.FileEncode.encode.Goals as goal

pub returns-clause-within : goal.returns-clause-within
returns-clause-within g c = encode_short (g.C.Chain.meaning c.args.self.now.chain.now) (g.C.Chain.lawful c.args.self.now.chain.now)

pub returns-clause-taken : goal.returns-clause-taken
returns-clause-taken g c =
    let t = g.met.S.Sink in
    let m = g.C.Chain.meaning c.args.self.now.chain.now in
    rw (← encode-split m _ _ c.states.ensures c.args.self.now.measured, append-nil)
    (t.more _ _ _ _ _ c.put_contents.ensures
    (t.more _ _ _ _ _ c.put_numbers.ensures
    (t.more _ _ _ _ _ c.put_marks.ensures
    (t.more _ _ _ _ _ c.put_offsets.ensures c.encode.ensures.taken))))
