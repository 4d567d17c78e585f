use Rattle.chain_format.proofs.TripLaws.{opens_exactly_files}
use Rattle.chain_format.proofs.opens_exactly_files.Goals as goal

pub returns : goal.returns
returns c = opens_exactly_files
