use Rattle.std.proofs.Common.{ℕ, ◌^◌, ◌<◌, ◌≤◌, length, decimal, arith}
use Rattle.std.proofs.lemmas.Fmt.{decimal_digit, length-decimal-le}
use Rattle.sheet.proofs.line.put_number.Goals as goal

short : (n : ℕ) → n < 2 ^ 64 → length (decimal n) ≤ 20
short n h = length-decimal-le 20 n (omega arith) (omega arith) h

pub returns-then-n-lt10-clause-taken : goal.returns-then-n-lt10-clause-taken
returns-then-n-lt10-clause-taken g c = rw (decimal_digit c.args.n c.if-n-lt10.true) c.put_byte.ensures

pub returns-then-n-lt10-clause-within : goal.returns-then-n-lt10-clause-within
returns-then-n-lt10-clause-within g c = short c.args.n c.ranges.n.fits
