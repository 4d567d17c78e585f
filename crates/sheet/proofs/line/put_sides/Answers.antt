use Rattle.std.proofs.Common.{◌≡◌, ℕ, suc, ◌+◌, ◌<◌, ◌++◌, length, take, get_or, refl, ◌∙◌, arith}
use Rattle.std.proofs.lemmas.List.{length-append, length-take, length_push, get_or-take}
use Rattle.std.proofs.lemmas.Slice.Zip.{zip_turn}
use Rattle.theory.specs.declared.record.BoxRecord.{BoxRecord}
use Rattle.sheet.specs.Sheet.{spaced, sides}
use Rattle.sheet.proofs.line.put_sides.Goals as goal

sides_more : (r : BoxRecord) (k low high : ℕ) → low ≡ get_or r.low k 0 → high ≡ get_or r.high k 0 → sides r (k + 1) ≡ sides r k ++ (spaced low ++ spaced high)
sides_more r k low high p q = let e : k + 1 ≡ suc k = omega arith in rw (e, p, q) refl

pub loop-low-preserved : goal.loop-low-preserved
loop-low-preserved g c =
    let r = c.args.«record».now in
    let n = c.min-count.result in
    let i = length c.loop-low.yielded in
    let turn = zip_turn (take n r.low) (take n r.high) c.loop-low.yielded c.into_iter-low-iterator.result c.loop-low.low-iterator c.next.new.self c.next.result (cc) (cc) c.loop-low.yielded_by _ c.in-Some.is c.next.ensures.steps in
    let here : i < n = omega (arith, turn.0, length-take n r.low) in
    let low : c.in-Some.low.now ≡ get_or r.low i 0 = turn.2 0 ∙ get_or-take n r.low i 0 here in
    let high : c.in-Some.high.now ≡ get_or r.high i 0 = turn.3 0 ∙ get_or-take n r.high i 0 here in
    let more = g.met.S.Sink.more in
    rw (length_push, sides_more r i _ _ low high) (
    record {
      taken = more _ _ _ _ _ c.loop-low.invariant.taken (more _ _ _ _ _ c.put_spaced.ensures.taken c.put_spaced-in-loop-low.ensures.taken);
      within = omega (arith, length-append (sides r i) (spaced c.in-Some.low.now ++ spaced c.in-Some.high.now), length-append (spaced c.in-Some.low.now) (spaced c.in-Some.high.now));
    }
    )
