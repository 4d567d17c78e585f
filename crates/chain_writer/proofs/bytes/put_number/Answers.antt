use Rattle.std.proofs.Common.{take, ap, ◌∙◌, subst, arith}
use Rattle.std.proofs.lemmas.List.{take_all}
use Rattle.chain_writer.proofs.Records.{take-le_bytes}
use Rattle.chain_writer.proofs.bytes.put_number.Goals as goal

pub returns : goal.returns
returns g c =
    let e = take_all c.loop-byte.byte-index _ (omega (arith, c.loop-byte-test.false)) ∙ ap (take c.args.width) c.to_le_bytes.ensures ∙ take-le_bytes c.args.width c.args.value c.requires in
    subst (λ xs. g.S.Sink.Takes c.args.sink.now xs c.loop-byte.sink) e c.loop-byte.invariant
