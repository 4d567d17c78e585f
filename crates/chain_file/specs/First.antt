-- The chain that a stored chain begins as: one state, which loops and is not bad.
use Rattle.chain.specs.Chains.{Meaning, looping}

abbrev pub first_chain : Meaning
first_chain = record { states = 1; rates = 1; unit = 1; start = 0; mark = λ _. 0; row = looping 1 }
