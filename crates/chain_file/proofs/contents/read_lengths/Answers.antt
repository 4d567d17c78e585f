use Rattle.std.proofs.Common.{ap, ◌∙◌, arith}
use Rattle.std.proofs.lemmas.Result.{err_from_is_err_and}
use Rattle.chain_format.specs.Reader.{field, is, repeat, got}
use Rattle.chain_format.specs.Format.{entry, next_entry}
use Rattle.chain_format.proofs.Steps.{then_got, then_cut}
use Rattle.chain_file.proofs.Fills.{four_of}
use Rattle.chain_file.proofs.Parts.{held}
use Rattle.chain_file.proofs.contents.read_lengths.Goals as goal

pub returns-in_err-header-clause-answer : goal.returns-in_err-header-clause-answer
returns-in_err-header-clause-answer c =
    let p = err_from_is_err_and c.from_residual.result c.from_residual.ensures.1 in
    rw (p.1, p.2) (then_cut _ _ _ _ c.in_err-header.ensures.answer)

pub returns-in_err-header-2-clause-answer : goal.returns-in_err-header-2-clause-answer
returns-in_err-header-2-clause-answer c =
    let p = err_from_is_err_and c.from_residual-in_err-header-2.result c.from_residual-in_err-header-2.ensures.1 in
    let b = held (λ p. field p 2 (is 4) c.header.new.self.at) c.header.ensures.same c.in_err-header-2.ensures.answer in
    rw (p.1, p.2) (then_got _ _ _ _ _ c.in_ok-header.ensures.answer ∙ then_cut _ _ _ _ b)

pub returns-in_err-read_entries-clause-answer : goal.returns-in_err-read_entries-clause-answer
returns-in_err-read_entries-clause-answer c =
    let p = err_from_is_err_and c.from_residual-in_err-read_entries.result c.from_residual-in_err-read_entries.ensures.1 in
    let same = c.header-2.ensures.same ∙ c.header.ensures.same in
    let b = held (λ p. field p 2 (is 4) c.header.new.self.at) c.header.ensures.same c.in_ok-header-2.ensures.answer in
    let d = held (λ p. repeat (entry p) next_entry 4 (1, 44) c.header-2.new.self.at) same c.in_err-read_entries.ensures.answer in
    rw (p.1, p.2) (then_got _ _ _ _ _ c.in_ok-header.ensures.answer ∙ then_got _ _ _ _ _ b ∙ d)

pub returns-clause-answer : goal.returns-clause-answer
returns-clause-answer c =
    let same = c.header-2.ensures.same ∙ c.header.ensures.same in
    let b = held (λ p. field p 2 (is 4) c.header.new.self.at) c.header.ensures.same c.in_ok-header-2.ensures.answer in
    let d = held (λ p. repeat (entry p) next_entry 4 (1, 44) c.header-2.new.self.at) same c.in_ok-read_entries.ensures.answer in
    then_got _ _ _ _ _ c.in_ok-header.ensures.answer ∙ then_got _ _ _ _ _ b ∙ d
    ∙ ap (λ xs. got xs c.read_entries.new.part.at) (four_of c.read_entries.new.into c.read_entries.auto.into)

pub returns-clause-moved : goal.returns-clause-moved
returns-clause-moved c =
    omega (arith, c.in_ok-header.ensures.moved, c.in_ok-header-2.ensures.moved, c.in_ok-read_entries.ensures.moved)
