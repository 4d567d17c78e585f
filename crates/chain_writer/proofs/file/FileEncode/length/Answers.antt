use Rattle.std.proofs.Common.{arith}
use Rattle.chain_format.proofs.Written.{encode-length}
use Rattle.chain_writer.proofs.Lengths.{encode_short}
use Rattle.chain_writer.proofs.file.FileEncode.length.Goals as goal

pub overflow_add-result-2 : goal.overflow_add-result-2
overflow_add-result-2 g c =
    let m = g.C.Chain.meaning c.args.self.now.chain.now in
    let short = encode_short m (g.C.Chain.lawful c.args.self.now.chain.now) in
    omega (arith, encode-length m _ _ c.states.ensures c.args.self.now.measured)

pub returns : goal.returns
returns g c =
    let m = g.C.Chain.meaning c.args.self.now.chain.now in
    let short = encode_short m (g.C.Chain.lawful c.args.self.now.chain.now) in
    record { exact = omega (arith, encode-length m _ _ c.states.ensures c.args.self.now.measured); within = short }
