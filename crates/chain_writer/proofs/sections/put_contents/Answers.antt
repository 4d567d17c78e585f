use Rattle.std.proofs.Common.{◌*◌, rules}
use Rattle.std.proofs.lemmas.List.{append-nil}
use Rattle.chain_format.proofs.Written.{contents_are}
use Rattle.chain_writer.proofs.sections.put_contents.Goals as goal

pub returns : goal.returns
returns g c = rw (contents_are 7 c.args.states (4 * c.args.states) c.args.rows, append-nil) (search rules)
