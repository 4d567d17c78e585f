use Rattle.std.proofs.Common.{◌^◌, ◌≤◌, ℤ, nat_abs, sym, subst, arith, w64}
use Rattle.theory.specs.Words.{◌·◌}
use Rattle.witness.proofs.Signs.{times_small, product_fits, product_is}
use Rattle.witness.proofs.value.times.Goals as goal
use Rattle.witness.proofs.value.times.Goals.{Start}

small : (c : goal.Start) → nat_abs (c.args.n · c.args.z) ≤ 2 ^ 50
small c = omega (arith, times_small c.args.n 1000 (2 ^ 40) c.args.z c.requires.n_few c.requires.z_small)

pub overflow_mul-result : goal.overflow_mul-result
overflow_mul-result c = product_fits w64 c.args.n c.args.z (omega arith) c.ranges.z (omega (arith, small c))

pub returns : goal.returns
returns c =
    let e = product_is w64 c.args.n c.args.z (omega arith) c.ranges.z (omega (arith, small c)) in
    let B : ℤ → Type 0 = λ z. nat_abs z ≤ 2 ^ 50 in
    record { product = e; bound = subst B (sym e) (small c) }
