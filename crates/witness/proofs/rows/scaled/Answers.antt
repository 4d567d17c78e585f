use Rattle.std.proofs.Common.{◌*◌, ◌^◌, ◌≤◌, ℤ, pos, nat_abs, sym, subst, mul-le-mul, arith}
use mir.Syntax.{w128}
use Rattle.std.proofs.lemmas.Int.{to_z-of_z, to_z_pos}
use Rattle.witness.proofs.Signs.{fits}
use Rattle.witness.proofs.rows.scaled.Goals as goal

small : (c : goal.Start) → c.args.number * c.args.scale ≤ 2 ^ 72
small c = let h : c.args.number ≤ 2 ^ 32 = omega arith in omega (arith, mul-le-mul h c.requires)

pub overflow_mul-result : goal.overflow_mul-result
overflow_mul-result c = rw (to_z_pos w128 c.args.number (omega arith), to_z_pos w128 c.args.scale (omega arith))
    (fits w128 (pos (c.args.number * c.args.scale)) (omega (arith, small c)))

pub returns : goal.returns
returns c = rw (to_z_pos w128 c.args.number (omega arith), to_z_pos w128 c.args.scale (omega arith))
    (let e = to_z-of_z w128 (pos (c.args.number * c.args.scale)) (fits w128 (pos (c.args.number * c.args.scale)) (omega (arith, small c))) in
    let B : ℤ → Type 0 = λ z. nat_abs z ≤ 2 ^ 72 in
    record { product = e; bound = subst B (sym e) (small c) })
