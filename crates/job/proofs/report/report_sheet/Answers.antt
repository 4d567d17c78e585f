use Rattle.std.proofs.Common.{◌≡◌, ℕ, ◌-◌, cond, ◌++◌, length, take, is_ok, vec_items, ap, ◌∙◌, arith}
use Rattle.std.proofs.lemmas.List.{take_at}
use Rattle.job.proofs.Texts.{written_front}
use Rattle.job.proofs.report.report_sheet.Goals as goal

pub unreachable-requires : goal.unreachable-requires
unreachable-requires g c =
    let long : length c.deref_mut.result.now ≡ 30527 = omega (arith, c.deref_mut.ensures.len, c.in_ok-page.ensures.len) in
    let e = c.in-Err.ensures.enough (omega (arith, long)) in
    let z : ◌≡◌ {A = ℕ} 0 1 = cc in omega arith

pub returns : goal.returns
returns g c =
    let out = vec_items c.args.out.now in
    let h = c.in-Ok.ensures.written in
    let long : length c.sheet.new.buffer ≡ c.in_ok-page.page.len = omega (arith, c.sheet.auto.buffer, c.deref_mut.ensures.len) in
    let page = c.deref.ensures.value ∙ take_at c.sheet.new.buffer _ _ long in
    c.extend_from_slice.ensures.items ∙ ap (λ t. cond (is_ok c.extend_from_slice.result) (out ++ t) out) (ap (take (c.in-Ok.length - 0)) page ∙ written_front _ _ _ c.in-Ok.length h.0 h.2)
