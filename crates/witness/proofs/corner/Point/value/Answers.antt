use Rattle.std.proofs.Common.{◌≡◌, ℕ, ◌*◌, ◌%◌, ◌^◌, ◌≤◌, length, sym, ap, ◌∙◌, arith, w64, rules}
use Rattle.std.proofs.Math.Pow.{pow_mono}
use Rattle.std.proofs.lemmas.Int.{to_z-of_z}
use Rattle.std.proofs.lemmas.List.{length-take-le}
use Rattle.theory.specs.Values.{eval}
use Rattle.theory.specs.Witness.{at}
use Rattle.witness.specs.Rows.{entry}
use Rattle.witness.proofs.Tables.{front-small, fronts-worth, room_least, take_few}
use Rattle.witness.proofs.corner.Point.value.Goals as goal

size : (n : ℕ) → n ≤ 3 → (1 * 2 ^ n % 18446744073709551616 ≡ 2 ^ n) × (2 ^ n ≤ 8)
size n h = let few : 2 ^ n ≤ 8 = pow_mono h in (omega arith, few)

pub slice_bounds-table-end : goal.slice_bounds-table-end
slice_bounds-table-end c = let s = size _ c.args.self.now.named_few in let long : length c.widened-table.result ≡ 8 = search rules in omega arith

pub slice_bounds-value-end-2 : goal.slice_bounds-value-end-2
slice_bounds-value-end-2 c = let s = size _ c.args.self.now.named_few in let long : length c.widened-table.result ≡ 8 = search rules in
    sym (length-take-le _ c.widened-table.result (omega arith))

pub value-requires-clause-point_few : goal.value-requires-clause-point_few
value-requires-clause-point_few c = take_few _ _ c.args.self.now.numbers c.args.self.now.numbers_few

pub value-requires-clause-full : goal.value-requires-clause-full
value-requires-clause-full c =
    let p = c.args.self.now in
    let s = size p.named p.named_few in
    let long : length c.widened-table.result ≡ 8 = search rules in
    length-take-le _ c.widened-table.result (omega arith) ∙ s.0 ∙ ap (λ k. 2 ^ k) (sym (length-take-le p.named p.numbers (omega (arith, p.numbers_long, p.named_few))))

pub value-requires-clause-small : goal.value-requires-clause-small
value-requires-clause-small c =
    let p = c.args.self.now in
    front-small _ 8000 _ c.widened-table.result (room_least _ (omega (arith, length-take-le p.named p.numbers (omega (arith, p.numbers_long, p.named_few)), p.named_few))).0 (rw c.widened-table.ensures c.requires)

pub returns-clause-worth : goal.returns-clause-worth
returns-clause-worth c =
    let p = c.args.self.now in
    to_z-of_z w64 c.value.result (record { sfits = c.value.type_inv }) ∙ c.value.ensures.worth
    ∙ fronts-worth p.grid _ p.named p.numbers c.widened-table.result (omega (arith, p.numbers_long, p.named_few)) (size p.named p.named_few).0
    ∙ ap (λ xs. eval p.grid (at p.numbers) p.named (entry xs)) c.widened-table.ensures
