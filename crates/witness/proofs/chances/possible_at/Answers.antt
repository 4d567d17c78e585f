use Rattle.std.proofs.Common.{take, pos, ◌∙◌, rules, tests}
use lib.Signed.{le_z}
use Rattle.std.proofs.lemmas.Iterator.{YieldsList-from_slice}
use Rattle.std.proofs.lemmas.Iterator.Adapters.{serves_from_places}
use Rattle.std.proofs.lemmas.Iterator.Search.{all_from_yields_List}
use Rattle.witness.specs.Regions.{box_of}
use Rattle.witness.proofs.Records.{worth, edge_small, possible-is}
use Rattle.witness.proofs.chances.possible_at.Goals as goal

pub all-requires-clause-callable : goal.all-requires-clause-callable
all-requires-clause-callable c =
    let row = c.args.row.now.row in
    serves_from_places (YieldsList-from_slice (take row.edge_count row.edges) cc) (λ x q k. search (rules, tests))
    (λ x k h same. let small = edge_small _ row c.args.row.now.readable x.now k h same in search rules)

pub returns : goal.returns
returns c =
    let row = c.args.row.now.row in
    let region = c.args.row.now.region.now in
    let p = c.point-point.result in
    all_from_yields_List (λ e. le_z (pos 0) (worth p.grid p.numbers p.named e)) _ _ _ c.all.ensures.ran
    (YieldsList-from_slice (take row.edge_count row.edges) cc) (λ x b q k. search (rules, tests))
    ∙ possible-is _ row c.args.row.now.readable p.grid region.grid (box_of region) c.args.corner p.numbers p.named c.point-point.ensures.grid c.point-point.ensures.named c.point-point.ensures.numbers
