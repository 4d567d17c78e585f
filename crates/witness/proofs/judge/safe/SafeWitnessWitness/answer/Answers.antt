use Rattle.std.proofs.Common.{rules}
use Rattle.witness.proofs.Judged.{tried_twice}
use Rattle.witness.proofs.judge.safe.SafeWitnessWitness.answer.Goals as goal

pub returns-in_err-try_numbers : goal.returns-in_err-try_numbers
returns-in_err-try_numbers g c = rw (← tried_twice (g.C.Chain.meaning c.args.chain.now) c.args.region.now c.args.self.now.v.now _) (search rules)
