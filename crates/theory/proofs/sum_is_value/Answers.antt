use Rattle.theory.proofs.Plain.{sum-is-value}
use Rattle.theory.proofs.sum_is_value.Goals as goal

pub returns : goal.returns
returns c = sum-is-value
