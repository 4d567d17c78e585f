use Rattle.theory.proofs.Sound.{unsafe_is_unsafe}
use Rattle.theory.proofs.unsafe_is_unsafe.Goals as goal

pub returns : goal.returns
returns c = unsafe_is_unsafe
