use Rattle.std.proofs.Common.{rules, is_ok, sym, ap, ◌∙◌}
use Rattle.rate_map.specs.Values.{map_value}
use Rattle.rate_map.proofs.Refusals.{field_refused}
use Rattle.rate_map.proofs.map.change.OpenMap+C.lay_out.Goals as goal

pub returns-in_err-map_err-clause-change : goal.returns-in_err-map_err-clause-change
returns-in_err-map_err-clause-change g c =
    let m = c.args.self.now in
    let refused = sym c.map_err.ensures.variant ∙ ap is_ok c.in_err-map_err.was in
    rw (field_refused (g.C.Chain.meaning m.chain) (map_value m) c.args.grid c.args.limit c.rates-rates.result c.args.sides.now c.laid_box-field.result c.new.result
    (g.C.Chain.lawful m.chain) c.rates-rates.ensures c.laid_box-field.ensures c.if-not-is_unused.ensures c.if-not-in_range.ensures c.if-sides-rates.false c.new.ensures refused) (search rules)
