use Rattle.chain_writer.proofs.Records.{told}
use Rattle.chain_writer.proofs.row.StateRow.record.Goals as goal

pub returns : goal.returns
returns g c =
    let r = c.args.self.now in
    told (g.C.Chain.meaning r.chain.now) r.state r.within c.row.result _ _ c.row.ensures
