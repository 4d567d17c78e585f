use Rattle.std.proofs.Common.{◌≡◌, true, cond, sym, ap, ◌∙◌, rules}
use Rattle.chain.specs.Chains.{bad}
use Rattle.theory.specs.Answers.{kept_at, row_ok}
use Rattle.witness.specs.Regions.{box_of}
use Rattle.witness.specs.Rows.{row_of}
use Rattle.witness.proofs.rows.state_holds.Goals as goal

pub returns : goal.returns
returns g c =
    let k = g.T.Claim.said c.args.claim.now in
    let m = g.C.Chain.meaning c.args.chain.now in
    let r = c.new-row.result in
    let e = c.new-row.ensures in
    let tested : k.tests (bad m c.args.state) c.args.state ≡ true
    = ap (λ z. k.tests z c.args.state) (sym c.is_bad.ensures) ∙ sym c.tests.ensures ∙ c.if-not-tests.false in
    c.passes_at_corners.ensures (kept_at k r.unit r.region.now.grid (box_of r.region.now) (row_of r.row) r.state) (λ t b h p. search rules)
    ∙ (λ i. row_ok k (e.unit i) (e.region i).grid (box_of (e.region i)) (e.row i) (e.state i))
    ∙ sym (ap (λ z. cond z (row_ok k m.unit c.args.region.now.grid (box_of c.args.region.now) (m.row c.args.state) c.args.state) true) tested)
