use Rattle.std.proofs.Common.{cond, ◌++◌, is_ok, vec_items, ap, ◌∙◌}
use Rattle.job.proofs.Texts.{written_front}
use Rattle.job.proofs.report.report_answer.Goals as goal

pub returns : goal.returns
returns c =
    let out = vec_items c.args.out.now in
    let h = c.in-Ok.ensures.written in
    c.extend_from_slice.ensures.items ∙ ap (λ t. cond (is_ok c.extend_from_slice.result) (out ++ t) out) (written_front _ _ _ _ h.0 h.2)
