use Rattle.std.proofs.Common.{◌+◌, ◌<◌, ◌≤◌, length, sym, ap, ◌∙◌, arith, rules}
use Rattle.chain_format.specs.Reader.{refused, got}
use Rattle.chain_format.proofs.Steps.{number-got, number_cut}
use Rattle.chain_file.proofs.Parts.{taken_is, left_after}
use Rattle.chain_file.proofs.part.Part.number.Goals as goal

pub returns-in_default-clause-answer : goal.returns-in_default-clause-answer
returns-in_default-clause-answer g c =
    let l : length c.args.self.now.rest.now < g.row.W = search rules in
    number_cut _ _ _ (omega arith) ∙ ap refused (sym c.refusal.ensures)

pub invariant_of-self-clause-left : goal.invariant_of-self-clause-left
invariant_of-self-clause-left g c =
    let h = c.in-Some.ensures.cases in
    left_after _ _ _ c.args.self.now.at g.row.W c.args.self.now.left h.1 h.2

pub returns-clause-answer : goal.returns-clause-answer
returns-clause-answer g c =
    let self = c.args.self.now in
    let h = c.in-Some.ensures.cases in
    let few : g.row.W ≤ length self.rest.now = omega (arith, h.2) in
    let value = c.value_at.ensures.value ∙ taken_is self.bytes.now self.rest.now c.in-Some.word.now self.at g.row.W self.left few h.0 in
    number-got _ _ _ (omega arith) ∙ ap (λ v. got v (self.at + g.row.W)) (sym value)
