use Rattle.chain_format.proofs.TripLaws.{read_then_write}
use Rattle.chain_format.proofs.read_then_write.Goals as goal

pub returns : goal.returns
returns c = read_then_write
