use Rattle.theory.proofs.Taken.{safe_taken_exactly}
use Rattle.theory.proofs.safe_taken_exactly.Goals as goal

pub returns : goal.returns
returns c = safe_taken_exactly
