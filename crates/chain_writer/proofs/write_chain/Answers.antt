use Rattle.std.proofs.Common.{rules}
use Rattle.chain_writer.proofs.Lengths.{reads_again}
use Rattle.chain_writer.proofs.write_chain.Goals as goal

pub returns-clause-again : goal.returns-clause-again
returns-clause-again g c =
    let again = reads_again (g.C.Chain.meaning c.args.chain.now) (g.C.Chain.lawful c.args.chain.now) c.args.buffer.now c.write.new.buffer in
    search (rules, again)
