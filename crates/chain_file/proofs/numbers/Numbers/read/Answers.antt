use Rattle.std.proofs.Common.{◌∙◌, arith}
use Rattle.std.proofs.lemmas.Result.{err_from_is_err_and}
use Rattle.chain_format.specs.Reader.{field, from, within}
use Rattle.chain_format.proofs.Steps.{then_got, then_cut, mapped-got, mapped-cut}
use Rattle.chain_file.proofs.Parts.{held}
use Rattle.chain_file.proofs.numbers.Numbers.read.Goals as goal

pub returns-in_err-states-clause-answer : goal.returns-in_err-states-clause-answer
returns-in_err-states-clause-answer c =
    let p = err_from_is_err_and c.from_residual.result c.from_residual.ensures.1 in
    rw (p.1, p.2) (then_cut _ _ _ _ c.in_err-states.ensures.answer)

pub returns-in_err-rates-clause-answer : goal.returns-in_err-rates-clause-answer
returns-in_err-rates-clause-answer c =
    let p = err_from_is_err_and c.from_residual-in_err-rates.result c.from_residual-in_err-rates.ensures.1 in
    let b = held (λ p. field p 1 (within 1 4) c.field.new.self.at) c.field.ensures.same c.in_err-rates.ensures.answer in
    rw (p.1, p.2) (then_got _ _ _ _ _ c.in_ok-states.ensures.answer ∙ then_cut _ _ _ _ b)

pub returns-in_err-unit-clause-answer : goal.returns-in_err-unit-clause-answer
returns-in_err-unit-clause-answer c =
    let p = err_from_is_err_and c.from_residual-in_err-unit.result c.from_residual-in_err-unit.ensures.1 in
    let b = held (λ p. field p 1 (within 1 4) c.field.new.self.at) c.field.ensures.same c.in_ok-rates.ensures.answer in
    let d = held (λ p. field p 2 (within 1 1000) c.field-2.new.self.at) (c.field-2.ensures.same ∙ c.field.ensures.same) c.in_err-unit.ensures.answer in
    rw (p.1, p.2) (then_got _ _ _ _ _ c.in_ok-states.ensures.answer ∙ then_got _ _ _ _ _ b ∙ then_cut _ _ _ _ d)

pub returns-in_err-start-clause-answer : goal.returns-in_err-start-clause-answer
returns-in_err-start-clause-answer c =
    let p = err_from_is_err_and c.from_residual-in_err-start.result c.from_residual-in_err-start.ensures.1 in
    let same = c.field-2.ensures.same ∙ c.field.ensures.same in
    let b = held (λ p. field p 1 (within 1 4) c.field.new.self.at) c.field.ensures.same c.in_ok-rates.ensures.answer in
    let d = held (λ p. field p 2 (within 1 1000) c.field-2.new.self.at) same c.in_ok-unit.ensures.answer in
    let e = held (λ p. field p 2 (from 0 c.in_ok-states.states) c.field-3.new.self.at) (c.field-3.ensures.same ∙ same) c.in_err-start.ensures.answer in
    rw (p.1, p.2) (then_got _ _ _ _ _ c.in_ok-states.ensures.answer ∙ then_got _ _ _ _ _ b ∙ then_got _ _ _ _ _ d ∙ mapped-cut _ _ _ _ e)

pub returns-clause-answer : goal.returns-clause-answer
returns-clause-answer c =
    let same = c.field-2.ensures.same ∙ c.field.ensures.same in
    let b = held (λ p. field p 1 (within 1 4) c.field.new.self.at) c.field.ensures.same c.in_ok-rates.ensures.answer in
    let d = held (λ p. field p 2 (within 1 1000) c.field-2.new.self.at) same c.in_ok-unit.ensures.answer in
    let e = held (λ p. field p 2 (from 0 c.in_ok-states.states) c.field-3.new.self.at) (c.field-3.ensures.same ∙ same) c.in_ok-start.ensures.answer in
    then_got _ _ _ _ _ c.in_ok-states.ensures.answer ∙ then_got _ _ _ _ _ b ∙ then_got _ _ _ _ _ d ∙ mapped-got _ _ _ _ _ e

pub returns-clause-place : goal.returns-clause-place
returns-clause-place c =
    omega (arith, c.in_ok-states.ensures.moved, c.in_ok-rates.ensures.moved, c.in_ok-unit.ensures.moved, c.in_ok-start.ensures.moved)
