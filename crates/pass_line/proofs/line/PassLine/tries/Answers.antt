use Rattle.std.proofs.Common.{arith, rules}
use Rattle.std.proofs.lemmas.Nat.{mul-le}
use Rattle.pass_line.proofs.line.PassLine.tries.Goals as goal

-- at most 64 passes of at most 32 tries
pub returns : goal.returns
returns c = record { value = search rules; bound = mul-le _ _ 64 32 c.args.self.now.fit.1 (omega arith) }
