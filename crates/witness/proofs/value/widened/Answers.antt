use Rattle.std.proofs.Common.{◌≡◌, length, pos, sym, ◌∙◌, arith, rules}
use Rattle.std.proofs.lemmas.List.{ext_get_or}
use Rattle.witness.proofs.value.widened.Goals as goal

pub returns : goal.returns
returns c =
    let long : length c.args.coefficients.now ≡ 8 = search rules in
    ext_get_or (pos 0) c.map.result c.args.coefficients.now (c.map.ensures.items.long ∙ sym long)
    (λ k h. let called = c.map.ensures.items.at k (pos 0) (pos 0) (omega (arith, c.map.ensures.items.long)) in search rules)
