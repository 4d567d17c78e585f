use Rattle.std.proofs.Common.{ℕ, ◌*◌, ◌^◌, ◌≤◌, mul-le-mul, arith}
use Rattle.std.proofs.Math.Nat.{pow-le-pow_left, pow-le-pow_right}
use Rattle.witness.proofs.row_at.RowAt.scale.Goals as goal

power : (g n : ℕ) → g ≤ 1000 → n ≤ 3 → g ^ n ≤ 1000000000
power g n h k = omega (arith, pow-le-pow_left h n, pow-le-pow_right {n = 1000} (omega arith) k)

pub pow-requires : goal.pow-requires
pow-requires c = omega (arith, power c.grid.result c.args.self.now.row.rate_count (rw c.grid.ensures c.args.self.now.region.now.grid_few) c.args.self.now.readable.rates_few)

product : (c : goal.After-pow) → c.args.self.now.unit * c.pow.result ≤ 1000000000000
product c =
    let few : c.pow.result ≤ 1000000000
    = rw c.pow.ensures (power c.grid.result c.args.self.now.row.rate_count (rw c.grid.ensures c.args.self.now.region.now.grid_few) c.args.self.now.readable.rates_few) in
    omega (arith, mul-le-mul c.args.self.now.unit_few few)

pub overflow_mul-result : goal.overflow_mul-result
overflow_mul-result c = record { fits = omega (arith, product c) }

pub returns-clause-few : goal.returns-clause-few
returns-clause-few c = omega (arith, product c)
