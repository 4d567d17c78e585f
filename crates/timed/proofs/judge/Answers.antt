use Rattle.rate_map.specs.Calls.{witness_on}
use Rattle.timed.specs.Timed.{witness_number}
use Rattle.timed.proofs.Judged.{judged_number, over_file_lem}
use Rattle.chain_format.specs.Format.{chain_in}
use Rattle.timed.proofs.judge.Goals as goal

pub returns : goal.returns
returns g c =
    let answer = g.W.Witness.answer c.args.witness.now in
    over_file_lem c.args.file.now _ (λ k. witness_number answer k c.args.grid c.args.limit c.args.sides.now) _ c.in_ok-open.ensures.0 c.in_ok-open.ensures.1
    (judged_number (λ x. chain_in x.bytes.now) c.open.new.self _ _ _ _ c.args.grid c.args.limit c.args.sides.now (λ k m. witness_on k m 0 (answer k)) _
    c.new-map.ensures.chain c.new-map.ensures.value c.lay_out.ensures.chain c.lay_out.ensures.change.left c.witness.ensures.change.answer)
