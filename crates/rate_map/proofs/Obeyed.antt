-- One call of a list: its answer and what it leaves are those defined.
use Rattle.std.proofs.Common.{◌≡◌, ℕ, suc, ◌<◌, ◌≤◌, Bool, true, ◌&&◌, leb, length, Ok, Err, Result, sym, refl, ap, ◌∙◌, inl, inr, arith}
use Rattle.std.proofs.lemmas.Bool.Decides.{nat_tests, leb_tells}
use Rattle.std.specs.Result.{result_and}
use Rattle.chain.specs.Chains.{Meaning, Lawful}
use Rattle.chain.specs.declared.refusal.Refusal.{Refusal}
use Rattle.chain.specs.declared.refusal.Refusal.TheVariants.{NoBox, NotOpen, BadGrid, BadField}
use Rattle.theory.specs.declared.record.Reply.TheVariants.{Done}
use Rattle.theory.specs.Words.{passes}
use Rattle.theory.specs.declared.verdict.Verdict.{Verdict}
use Rattle.theory.specs.Boxes.{Box}
use Rattle.theory.specs.Answers.{need}
use Rattle.theory.specs.Maps.{MapValue, box_at, sides_of, side_ok, is_open, for_box, keeping}
use Rattle.theory.specs.Runs.{Answer, or_kept, done}
use Rattle.theory.proofs.Lowest.{passes_decides}
use Rattle.rate_map.specs.Calls.{Changes, taken, region_of, witness_on, Fit}

-- ---- the answer of a list's call from that of the map's
pub on_ok : {w : Result MapValue Refusal} {m exit : MapValue} {r : Result (Unit {0}) Refusal} {u : Unit {0}} → Changes w m r exit → r ≡ Ok u → ◌≡◌ {A = Answer} (Ok Done) (done w)
on_ok {w = Ok n} h q = refl
on_ok {w = Err e} h q = absurd (let z : ◌≡◌ {A = ℕ} 0 1 = cc (h.answer) in omega arith)

pub on_err : {w : Result MapValue Refusal} {m exit : MapValue} {r : Result (Unit {0}) Refusal} {e : Refusal} → Changes w m r exit → r ≡ Err e → ◌≡◌ {A = Answer} (Err e) (done w)
on_err {w = Ok n} h q = absurd (let z : ◌≡◌ {A = ℕ} 0 1 = cc (h.answer) in omega arith)
on_err {w = Err d} h q = cc (h.answer)

pub changes_as : {w v : Result MapValue Refusal} {m exit : MapValue} {r : Result (Unit {0}) Refusal} → w ≡ v → Changes w m r exit → Changes v m r exit
changes_as e h = record { answer = h.answer ∙ ap taken e; left = h.left ∙ ap (or_kept _) e }

-- ---- a proper box is a region
region_ok : (a b p : Bool) → a ≡ true → b ≡ true → p ≡ true → ◌≡◌ {A = Result (Unit {0}) Refusal} (need a BadGrid (need (b && p) BadField (Ok tt))) (Ok tt)
region_ok a b p x y z = rw (x, y, z)

module _ (c : Meaning) (lawful : Lawful c) (m : MapValue) (few : m.grid ≤ 1000) (fit : Fit c m) where
  region_is : (i : ℕ) → i < length m.boxes → region_of c m i ≡ Ok tt
  region_is i h =
      let p = fit i h in
      let b = box_at m.boxes i in
      let some = lawful.rates_some in
      let most = lawful.rates_few in
      let grid = p.grid in
      region_ok (leb 1 m.grid && leb m.grid 1000) (leb 1 c.rates && leb c.rates 4) (passes (side_ok m.grid b.low b.high) c.rates)
      (grind (arith, nat_tests)) (grind (arith, nat_tests))
      ((passes_decides (side_ok m.grid b.low b.high) c.rates).1 (λ r l. let w = p.wide r l in let n = p.within r l in grind (arith, nat_tests)))

  on_box : {A : Type 0} (i : ℕ) (x : Result A Refusal) → for_box m i (result_and (region_of c m i) x) ≡ for_box m i x
  on_box i x = elim (leb_tells (suc i) (length m.boxes)) [
    | inl t ↦ ap (λ r. for_box m i (result_and r x)) (region_is i t.1)
    | inr t ↦ ap (λ b. need b NoBox (need (is_open (box_at m.boxes i).verdict) NotOpen (result_and (region_of c m i) x))) t.0
        ∙ sym (ap (λ b. need b NoBox (need (is_open (box_at m.boxes i).verdict) NotOpen x)) t.0)
  ]

  -- a witness for a box
  pub witnessed : (i : ℕ) (answer : ℕ → Box → ℕ → Result Verdict Refusal) {exit : MapValue} {r : Result (Unit {0}) Refusal}
      → Changes (witness_on c m i answer) m r exit → Changes (for_box m i (keeping m i (answer m.grid (sides_of (box_at m.boxes i)) m.limit))) m r exit
  witnessed i answer h = changes_as (on_box i (keeping m i (answer m.grid (sides_of (box_at m.boxes i)) m.limit))) h
