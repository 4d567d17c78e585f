use Rattle.script.proofs.Digits.{Digits}
use Rattle.script.proofs.numbers.read_number.Given as goal

abbrev pub invariant-loop-byte : goal.invariant-loop-byte
invariant-loop-byte l = Digits l.digits l.byte-index l.value
