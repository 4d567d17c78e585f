use Rattle.theory.proofs.Taken.{unsafe_taken_exactly}
use Rattle.theory.proofs.unsafe_taken_exactly.Goals as goal

pub returns : goal.returns
returns c = unsafe_taken_exactly
