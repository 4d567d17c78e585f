use Rattle.std.proofs.Common.{◌≡◌, ◌≤◌, length, sym, ◌∙◌, w64, rules}
use Rattle.std.proofs.lemmas.Int.{to_z-of_z}
use Rattle.witness.specs.Rows.{room}
use Rattle.witness.proofs.Tables.{Halves, Rest, halves, rest_of, low_small, high_small, small_more, room_most, only_small}
use Rattle.witness.proofs.value.+value.Goals as goal
use Rattle.witness.proofs.value.+value.Goals.{After-split_at_mut-low, After-set_in}

halved : (t : _) (c : goal.After-split_at_mut-low t) → Halves (length c.args.point.now) c.args.table.now c.split_at_mut-low.result.0.now c.split_at_mut-low.result.1.now
halved t c = let some : 1 ≤ length c.args.point.now = search rules in
    halves _ c.args.table.now _ _ some c.requires.full c.split_at_mut-low.ensures.value c.split_at_mut-low.ensures.front_len

few : (t : _) (c : goal.After-split_at_mut-low t) → room (length c.args.point.now) ≤ 1099511627776
few t c = let some : 1 ≤ length c.args.point.now = search rules in (room_most (length c.args.point.now) some c.requires.few).0

pub set_in-requires-clause-low_small : goal.set_in-requires-clause-low_small
set_in-requires-clause-low_small t c = let d = (goal.at.set_in-requires-clause-low_small t c).After-split_at_mut-low in
    small_more _ _ _ (few t d) (low_small (halved t d) _ c.requires.small)

pub set_in-requires-clause-high_small : goal.set_in-requires-clause-high_small
set_in-requires-clause-high_small t c = let d = (goal.at.set_in-requires-clause-high_small t c).After-split_at_mut-low in
    small_more _ _ _ (few t d) (high_small (halved t d) _ c.requires.small)

rest : (t : _) (c : goal.After-set_in t) → Rest c.args.grid c.args.point.now c.args.table.now c.set_in.new.low
rest t c =
    let some : 1 ≤ length c.args.point.now = search rules in
    rest_of c.args.grid c.args.point.now c.args.table.now c.split_at_mut-low.result.0.now c.split_at_mut-low.result.1.now _
    c.requires.grid_few c.requires.point_few some c.requires.few
    (halves _ c.args.table.now _ _ some c.requires.full c.split_at_mut-low.ensures.value c.split_at_mut-low.ensures.front_len)
    c.requires.small c.set_in.auto.low c.set_in.ensures

pub value-requires : goal.value-requires
value-requires t c = let r = rest t (goal.at.value-requires t c).After-set_in in
    (search rules, (c.requires.grid_few, (r.point_few, (r.few, (r.full, r.small)))))

pub returns-in-len1-up-clause-worth : goal.returns-in-len1-up-clause-worth
returns-in-len1-up-clause-worth t c =
    to_z-of_z w64 c.value.result (record { sfits = c.value.type_inv }) ∙ c.value.ensures.worth
    ∙ sym (rest t (goal.at.returns-in-len1-up-clause-worth t c).After-set_in).worth

pub returns-in-len1-clause-bound : goal.returns-in-len1-clause-bound
returns-in-len1-clause-bound t c =
    let one : length c.args.point.now ≡ 1 = search rules in
    rw (to_z-of_z w64 c.mixed.result (record { sfits = c.mixed.type_inv }))
    (only_small c.args.grid c.args.point.now c.args.table.now c.mixed.result c.requires.grid_few (c.requires.point_few 0) (rw one at c.requires.small) c.mixed.ensures)
