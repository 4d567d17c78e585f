use Rattle.std.proofs.Common.{◌∙◌}
use Rattle.std.proofs.lemmas.Result.{err_from_is_err_and}
use Rattle.chain_format.specs.Reader.{number, field, is}
use Rattle.chain_format.proofs.Steps.{then_got, then_cut}
use Rattle.chain_file.proofs.Parts.{held}
use Rattle.chain_file.proofs.contents.read_entry.Goals as goal

pub returns-in_err-exactly-clause-answer : goal.returns-in_err-exactly-clause-answer
returns-in_err-exactly-clause-answer c =
    let p = err_from_is_err_and c.from_residual.result c.from_residual.ensures.1 in
    rw (p.1, p.2) (then_cut _ _ _ _ c.in_err-exactly.ensures.answer)

pub returns-in_err-exactly-2-clause-answer : goal.returns-in_err-exactly-2-clause-answer
returns-in_err-exactly-2-clause-answer c =
    let p = err_from_is_err_and c.from_residual-in_err-exactly-2.result c.from_residual-in_err-exactly-2.ensures.1 in
    let b = held (λ p. field p 4 (is c.args.offset) c.exactly.new.self.at) c.exactly.ensures.same c.in_err-exactly-2.ensures.answer in
    rw (p.1, p.2) (then_got _ _ _ _ _ c.in_ok-exactly.ensures.answer ∙ then_cut _ _ _ _ b)

pub returns-clause-answer : goal.returns-clause-answer
returns-clause-answer c =
    let b = held (λ p. field p 4 (is c.args.offset) c.exactly.new.self.at) c.exactly.ensures.same c.in_ok-exactly-2.ensures.answer in
    let d = held (λ p. number p 4 c.exactly-2.new.self.at) (c.exactly-2.ensures.same ∙ c.exactly.ensures.same) c.number.ensures.answer in
    then_got _ _ _ _ _ c.in_ok-exactly.ensures.answer ∙ then_got _ _ _ _ _ b ∙ d
