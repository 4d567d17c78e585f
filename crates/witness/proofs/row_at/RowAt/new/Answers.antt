use Rattle.std.proofs.Common.{ap, ◌∙◌}
use Rattle.witness.specs.Rows.{row_of}
use Rattle.witness.proofs.Filled.{row_back, readable}
use Rattle.witness.proofs.row_at.RowAt.new.Goals as goal

pub invariant_of-result : goal.invariant_of-result
invariant_of-result g c =
    let lawful = g.C.Chain.lawful c.args.chain.now in
    record {
      unit_few = rw c.unit.ensures lawful.unit_few;
      readable = rw (c.requires.same, c.in-Ok.ensures.1) (readable (lawful.rows c.args.state c.requires.known) lawful.rates_some);
    }

pub returns-clause-row : goal.returns-clause-row
returns-clause-row g c =
    ap row_of c.in-Ok.ensures.1 ∙ row_back ((g.C.Chain.lawful c.args.chain.now).rows c.args.state c.requires.known)
