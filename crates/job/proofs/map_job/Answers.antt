use Rattle.std.proofs.Common.{vec_items, refl}
use Rattle.std.proofs.lemmas.Result.{IfOk-weaker}
use Rattle.job.proofs.Jobs.{run_job}
use Rattle.job.proofs.map_job.Goals as goal

pub returns-in-Ok : goal.returns-in-Ok
returns-in-Ok c =
    let runs = c.in-Ok.ensures.runs.0 refl in
    let same = c.in-Ok.ensures.chain in
    record {
      output = IfOk-weaker c.map_chain.result _ _ (λ out o. run_job c.args.file.now _ c.args.script.now (vec_items out) runs.file_short runs.opens runs.script_short same o) c.map_chain.ensures.output;
      promise = IfOk-weaker c.map_chain.result _ _ (λ out m _. rw (← same) m) c.map_chain.ensures.promise;
    }
