use Rattle.std.proofs.Common.{refl, arith}
use Rattle.chain_format.specs.Format.{version1, chain_in}
use Rattle.chain_format.proofs.Holds.{told, row_told}
use Rattle.chain_file.proofs.stored.StoredChain.row_place.Goals as goal

pub returns-clause-inside : goal.returns-clause-inside
returns-clause-inside c =
    let self = c.args.self.now in
    let t = told self.bytes.now self.fit self.ok in
    (row_told version1 self.bytes.now (chain_in self.bytes.now) t _ _ _ c.args.state c.count-states.ensures refl c.value_at.ensures.value (omega (arith, c.requires, c.count-states.ensures))).1
