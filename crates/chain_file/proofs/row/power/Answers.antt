use Rattle.std.proofs.Common.{arith}
use native.Mathlib.Nat.{pow-le-pow_right}
use Rattle.chain_file.proofs.row.power.Goals as goal

pub returns-clause-few : goal.returns-clause-few
returns-clause-few c = omega (arith, pow-le-pow_right {n = 2} (omega arith) c.requires)
