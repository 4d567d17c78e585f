use Rattle.witness.proofs.Tables.{SetTo}
use Rattle.witness.proofs.value.Rate.set_in.Given as goal

abbrev pub invariant-loop-k : goal.invariant-loop-k
invariant-loop-k l = SetTo l.self.grid l.self.number l.low l.initial.low l.high l.k
