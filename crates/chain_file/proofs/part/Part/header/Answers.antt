use Rattle.std.proofs.Common.{◌≤◌, length, sym, ap, ◌∙◌, arith}
use Rattle.chain_format.specs.Reader.{refused}
use Rattle.chain_format.proofs.Steps.{number-got, number_cut, tested-cut}
use Rattle.chain_file.proofs.Parts.{taken_is, two_taken, field_is, field_not}
use Rattle.chain_file.proofs.part.Part.header.Goals as goal

pub returns-in_default-clause-answer : goal.returns-in_default-clause-answer
returns-in_default-clause-answer c =
    tested-cut _ _ _ _ _ (number_cut _ _ _ (omega (arith, c.in_default.len_below))) ∙ ap refused (sym c.refusal.ensures)

pub returns-then-value_at-due-clause-answer : goal.returns-then-value_at-due-clause-answer
returns-then-value_at-due-clause-answer c =
    let self = c.args.self.now in
    let few : 2 ≤ length self.rest.now = omega (arith, c.in-len2-up.len_at_least) in
    let value = c.value_at.ensures.value ∙ taken_is self.bytes.now self.rest.now _ self.at 2 self.left few (two_taken self.rest.now few) in
    field_not _ _ _ _ _ _ (number-got _ _ _ (omega arith)) (λ e. c.if-value_at-due.true (value ∙ e)) ∙ ap refused (sym c.refusal-then-value_at-due.ensures)

pub returns-clause-answer : goal.returns-clause-answer
returns-clause-answer c =
    let self = c.args.self.now in
    let few : 2 ≤ length self.rest.now = omega (arith, c.in-len2-up.len_at_least) in
    let value = c.value_at.ensures.value ∙ taken_is self.bytes.now self.rest.now _ self.at 2 self.left few (two_taken self.rest.now few) in
    field_is _ _ _ _ _ _ (number-got _ _ _ (omega arith)) (sym value ∙ c.if-value_at-due.false)
