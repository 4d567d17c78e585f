use Rattle.chain_format.proofs.TripLaws.{opens_rightly}
use Rattle.chain_format.proofs.opens_rightly.Goals as goal

pub returns : goal.returns
returns c = opens_rightly
