use Rattle.std.proofs.Common.{◌^◌, ◌≤◌, lit<, arith, sym, ◌∙◌}
use Rattle.std.proofs.Math.Nat.{pow-le-pow_right}
use Rattle.script.proofs.Digits.{digits_more}
use Rattle.script.proofs.numbers.read_number.Goals as goal

pub overflow_mul-value : goal.overflow_mul-value
overflow_mul-value c =
    let few : c.loop-byte.byte-index ≤ 15 = omega arith in
    let most : 10 ^ c.loop-byte.byte-index ≤ 10 ^ 15 = pow-le-pow_right (lit< tt) few in
    omega arith

pub loop-byte-preserved : goal.loop-byte-preserved
loop-byte-preserved c = digits_more c.from.result c.loop-byte.invariant c.loop-byte-test.true (sym c.is_ascii_digit.ensures.value ∙ c.if-not-is_ascii_digit.false) c.from.ensures
