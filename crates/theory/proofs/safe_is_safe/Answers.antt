use Rattle.theory.proofs.Sound.{safe_is_safe}
use Rattle.theory.proofs.safe_is_safe.Goals as goal

pub returns : goal.returns
returns c = safe_is_safe
