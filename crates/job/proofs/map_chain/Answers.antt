use Rattle.std.proofs.Common.{ℕ, List, map, vec_items, ap, ◌∙◌}
use Rattle.std.proofs.lemmas.Result.{IfOk-weaker}
use Rattle.rate_map.specs.Told.{command}
use Rattle.script.specs.Grammar.{Said}
use Rattle.script.specs.Values.{said_by}
use Rattle.job.proofs.Jobs.{whole}
use Rattle.job.proofs.map_chain.Goals as goal

pub returns : goal.returns
returns g c =
    let s = c.in_ok-script.ensures in
    let p = c.in_ok-plan.ensures in
    let said : ℕ → List Said = λ n. said_by n c.in_ok-script.script in
    let all = whole g.C.Chain.meaning c.args.chain c.args.bytes.now said c.in_ok-ran.ran _ _ c.states-states.ensures c.rates-rates.ensures s.says s.grammar
    _ _ (ap (map command) c.deref.ensures.value ∙ p.0) p.1 c.in_ok-ran.ensures in
    record {
      output = IfOk-weaker c.show.result _ _ (λ out o. (all (vec_items out) o).0) c.show.ensures;
      promise = IfOk-weaker c.show.result _ _ (λ out o. (all (vec_items out) o).1) c.show.ensures;
    }
