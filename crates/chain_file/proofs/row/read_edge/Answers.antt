use Rattle.std.proofs.Common.{pos, sym, refl, ap, ◌∙◌}
use Rattle.std.proofs.lemmas.Result.{err_from_is_err_and}
use Rattle.chain.specs.Chains.{Edge}
use Rattle.chain_format.specs.Reader.{Part, repeat, stay}
use Rattle.chain_format.specs.Format.{coefficient}
use Rattle.chain_format.proofs.Steps.{then_got, then_cut, mapped-got, mapped-cut}
use Rattle.chain_file.proofs.Fills.{front_length, pad}
use Rattle.chain_file.proofs.row.read_edge.Goals as goal

pub returns-in_err-successor-clause-answer : goal.returns-in_err-successor-clause-answer
returns-in_err-successor-clause-answer c =
    let p = err_from_is_err_and c.from_residual.result c.from_residual.ensures.1 in
    rw (p.1, p.2) (then_cut _ _ _ _ c.in_err-successor.ensures.answer)

pub returns-in_err-read_coefficients-clause-answer : goal.returns-in_err-read_coefficients-clause-answer
returns-in_err-read_coefficients-clause-answer c =
    let p = err_from_is_err_and c.from_residual-in_err-read_coefficients.result c.from_residual-in_err-read_coefficients.ensures.1 in
    let n = front_length 8 c.args.size (pos 0) c.requires.size in
    let read = ap (λ (p : Part). repeat (λ _. coefficient p) stay c.args.size 0 c.field.new.self.at) (sym c.field.ensures.same)
    ∙ rw n at c.in_err-read_coefficients.ensures.answer in
    rw (p.1, p.2) (then_got _ _ _ _ _ c.in_ok-successor.ensures.answer ∙ mapped-cut _ _ _ _ read)

pub returns-clause-answer : goal.returns-clause-answer
returns-clause-answer c =
    let n = front_length 8 c.args.size (pos 0) c.requires.size in
    let read = ap (λ (p : Part). repeat (λ _. coefficient p) stay c.args.size 0 c.field.new.self.at) (sym c.field.ensures.same)
    ∙ rw n at c.in_ok-read_coefficients.ensures.answer in
    let cs = c.read_coefficients.new.into in
    let e : Edge = record { successor = c.in_ok-successor.successor; coefficients = cs } in (
      e,
      then_got _ _ _ _ _ c.in_ok-successor.ensures.answer ∙ mapped-got _ _ _ _ _ read,
      rw (pad 8 c.args.size (pos 0) cs (c.read_coefficients.auto.into ∙ n)) refl,
    )
