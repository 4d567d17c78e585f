use Rattle.std.proofs.Common.{◌^◌, ◌≤◌, ℤ, nat_abs, sym, subst, arith, w64}
use mir.Syntax.{w128}
use Rattle.std.proofs.lemmas.Int.{to_z-of_z}
use Rattle.theory.specs.Words.{◌·◌}
use Rattle.witness.specs.Rows.{room}
use Rattle.witness.proofs.Signs.{fits, times_small, product_fits, product_is}
use Rattle.witness.proofs.rows.term.Goals as goal

small : (c : goal.Start) → nat_abs (c.args.number · c.args.value) ≤ 2 ^ 78
small c = omega (arith, times_small c.args.number (2 ^ 32) (room 0) c.args.value (omega arith) c.requires)

pub overflow_mul-result : goal.overflow_mul-result
overflow_mul-result c = rw (to_z-of_z w64 c.args.value c.ranges.value)
    (product_fits w128 c.args.number c.args.value (omega arith) (fits w128 c.args.value (omega (arith, c.requires))) (omega (arith, small c)))

pub returns : goal.returns
returns c = rw (to_z-of_z w64 c.args.value c.ranges.value)
    (let e = product_is w128 c.args.number c.args.value (omega arith) (fits w128 c.args.value (omega (arith, c.requires))) (omega (arith, small c)) in
    let B : ℤ → Type 0 = λ z. nat_abs z ≤ 2 ^ 78 in
    record { product = e; bound = subst B (sym e) (small c) })
