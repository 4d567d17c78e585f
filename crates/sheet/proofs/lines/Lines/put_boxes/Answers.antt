use Rattle.std.proofs.Common.{◌≡◌, ℕ, zero, suc, ◌+◌, ◌<◌, List, [], ◌∷◌, ◌++◌, length, take, get_or, refl, sym, ap, ◌∙◌, arith}
use Rattle.std.proofs.lemmas.List.{append_assoc, append-nil, length-append, length-take-le, take_more}
use Rattle.theory.specs.declared.record.BoxRecord.{BoxRecord}
use Rattle.theory.specs.declared.verdict.Verdict.TheVariants.{Open}
use Rattle.sheet.specs.Sheet.{box_line, box_lines}
use Rattle.sheet.proofs.lines.Lines.put_boxes.Goals as goal

lines_push : (i rates : ℕ) (rs : List BoxRecord) (r : BoxRecord) → box_lines i rates (rs ++ r ∷ []) ≡ box_lines i rates rs ++ box_line (i + length rs) rates r
lines_push i rates [] r = let e : i + zero ≡ i = omega arith in rw (append-nil, e) refl
lines_push i rates (q ∷ rs) r =
    let e : i + suc (length rs) ≡ i + 1 + length rs = omega arith in
    let first = box_line i rates q in
    rw e (ap (λ t. first ++ t) (lines_push (i + 1) rates rs r) ∙ sym (append_assoc first (box_lines (i + 1) rates rs) (box_line (i + 1 + length rs) rates r)))

lines_more : (rates : ℕ) (rs : List BoxRecord) (i : ℕ) (r : BoxRecord) → i < length rs
    → box_lines 0 rates (take (i + 1) rs) ≡ box_lines 0 rates (take i rs) ++ box_line i rates (get_or rs i r)
lines_more rates rs i r h =
    let e : 0 + length (take i rs) ≡ i = omega (arith, length-take-le i rs (omega arith)) in
    ap (box_lines 0 rates) (take_more rs i r h) ∙ rw (lines_push, e) refl

pub loop-i-preserved : goal.loop-i-preserved
loop-i-preserved g c =
    let rates = c.args.self.now.rates in
    let rs = c.args.self.now.boxes.now in
    let i = c.loop-i.i in
    let none : BoxRecord = record { low = []; high = []; verdict = Open } in
    rw (lines_more rates rs i none c.loop-i-test.true) (
    record {
      taken = g.met.S.Sink.more _ _ _ _ _ c.loop-i.invariant.taken c.encode.ensures.taken;
      within = omega (arith, length-append (box_lines 0 rates (take i rs)) (box_line i rates (get_or rs i none)), c.loop-i.invariant.within, c.encode.ensures.within);
    }
    )
