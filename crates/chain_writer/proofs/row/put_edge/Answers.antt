use Rattle.std.proofs.Common.{◌≡◌, ℕ, ◌<◌, List, [], length, get_or, pos, w16, of_z, ◌∙◌, subst, rules}
use Rattle.std.specs.Int.{to_le_bytes}
use Rattle.chain_writer.proofs.Records.{coefficients-spelt}
use Rattle.chain_writer.proofs.row.put_edge.Goals as goal

pub returns : goal.returns
returns g c =
    let xs = c.args.edge.now.coefficients in
    let ys : List (List ℕ) = c.map-coefficients.result in
    let eight : length xs ≡ 8 = search rules in
    let at : (i : ℕ) → i < 8 → get_or ys i [] ≡ to_le_bytes w16 (of_z w16 (get_or xs i (pos 0))) = λ i l. let h = c.map-coefficients.ensures.items.at i (pos 0) [] l in search rules in
    let e = c.as_flattened.ensures.value ∙ coefficients-spelt c.args.size xs ys 8 eight c.map-coefficients.ensures.items.long at in
    g.met.S.Sink.more _ _ _ _ _ c.put_number.ensures (subst (λ bs. g.S.Sink.Takes c.put_number.new.sink bs c.put.new.self) e c.put.ensures)
