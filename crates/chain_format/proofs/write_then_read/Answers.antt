use Rattle.chain_format.proofs.TripLaws.{write_then_read}
use Rattle.chain_format.proofs.write_then_read.Goals as goal

pub returns : goal.returns
returns c = write_then_read
