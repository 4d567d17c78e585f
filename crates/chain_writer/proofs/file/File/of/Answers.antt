use Rattle.std.proofs.Common.{arith}
use Rattle.chain_writer.proofs.file.File.of.Goals as goal

pub overflow_cast-rows : goal.overflow_cast-rows
overflow_cast-rows g c = omega (arith, c.length-rows.ensures.exact, c.length-rows.ensures.within, (g.C.Chain.lawful c.args.chain.now).states_few)

pub invariant_of-result : goal.invariant_of-result
invariant_of-result g c = record { measured = omega (arith, c.length-rows.ensures.exact, c.length-rows.ensures.within, (g.C.Chain.lawful c.args.chain.now).states_few) }
