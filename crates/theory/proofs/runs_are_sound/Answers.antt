use Rattle.theory.proofs.Runs.{runs_are_sound}
use Rattle.theory.proofs.runs_are_sound.Goals as goal

pub returns : goal.returns
returns c = runs_are_sound
