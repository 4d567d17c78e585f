use Rattle.theory.proofs.Rows.{corners_decide}
use Rattle.theory.proofs.corners_decide.Goals as goal

pub returns : goal.returns
returns c = corners_decide
