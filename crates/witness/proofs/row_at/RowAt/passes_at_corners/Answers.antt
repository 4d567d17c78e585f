use Rattle.std.proofs.Common.{◌≡◌, ◌*◌, ◌%◌, ◌^◌, ◌≤◌, sym, ap, ◌∙◌, arith}
use Rattle.std.proofs.Math.Pow.{pow_mono}
use Rattle.theory.specs.Words.{lowest, is_none}
use Rattle.witness.proofs.Found.{none-told}
use Rattle.witness.proofs.Records.{named-is}
use Rattle.witness.proofs.row_at.RowAt.passes_at_corners.Goals as goal

pub returns : goal.returns
returns g c = λ ok told.
    let row = c.args.self.now.row in
    let readable = c.args.self.now.readable in
    let few : 2 ^ row.rate_count ≤ 8 = pow_mono readable.rates_few in
    let size : 1 * 2 ^ row.rate_count % 4294967296 ≡ 2 ^ row.rate_count = omega arith in
    none-told _ _ c.is_none.ensures
    ∙ ap is_none (c.lowest.ensures ok (λ t r h p. told t r (omega (arith, h)) p) ∙ ap (lowest ok) (size ∙ ap (λ n. 2 ^ n) (sym (named-is _ row readable))))
