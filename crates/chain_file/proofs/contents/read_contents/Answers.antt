use Rattle.std.proofs.Common.{length, ap, ◌∙◌, arith}
use Rattle.std.proofs.lemmas.Result.{on_ok_weaker}
use Rattle.chain_format.specs.Reader.{Part}
use Rattle.chain_format.specs.Format.{version1, contents}
use Rattle.chain_file.proofs.Parts.{begun, answer_by-to}
use Rattle.chain_file.proofs.contents.read_contents.Goals as goal

pub returns-clause-answer : goal.returns-clause-answer
returns-clause-answer c =
    let end = on_ok_weaker c.read_lengths.result (λ h. omega (arith, h, c.new.ensures.place)) c.read_lengths.ensures.moved in
    begun (contents version1) c.new.ensures.value c.new.ensures.place (c.read_lengths.ensures.answer ∙ answer_by-to _ c.read_lengths.result _ 44 end)

pub returns-clause-long : goal.returns-clause-long
returns-clause-long c =
    let same = ap (λ (p : Part). length p.bytes) (c.read_lengths.ensures.same ∙ c.new.ensures.value) in
    on_ok_weaker c.read_lengths.result (λ h. omega (arith, h, same, c.new.ensures.place, c.read_lengths.new.part.inside)) c.read_lengths.ensures.moved
