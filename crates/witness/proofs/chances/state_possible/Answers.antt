use Rattle.std.proofs.Common.{◌^◌, ◌∙◌, rules}
use Rattle.theory.specs.Words.{passes}
use Rattle.theory.specs.Values.{named}
use Rattle.theory.specs.Answers.{possible_at}
use Rattle.witness.specs.Regions.{box_of}
use Rattle.witness.specs.Rows.{row_of}
use Rattle.witness.proofs.chances.state_possible.Goals as goal

pub returns : goal.returns
returns g c =
    let r = c.new-row.result in
    c.passes_at_corners.ensures (possible_at r.region.now.grid (box_of r.region.now) (row_of r.row)) (λ t b h p. search rules)
    ∙ (λ i. let region = c.new-row.ensures.region i in let row = c.new-row.ensures.row i in passes (possible_at region.grid (box_of region) row) (2 ^ named row))
