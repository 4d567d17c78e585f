-- When lay out refuses the field.
use Rattle.std.proofs.Common.{◌≡◌, ℕ, ◌*◌, ◌≤◌, Bool, true, false, ◌&&◌, eqb, leb, List, length, is_ok, Ok, Err, Result, true≢false, sym, refl, ap, ◌∙◌, arith}
use Rattle.std.proofs.lemmas.Bool.Decides.{nat_tests, Decides-eqb}
use Rattle.chain.specs.Chains.{Meaning, Lawful}
use Rattle.chain.specs.declared.refusal.Refusal.{Refusal}
use Rattle.chain.specs.declared.refusal.Refusal.TheVariants.{BadGrid, BadField}
use Rattle.theory.specs.Words.{passes}
use Rattle.theory.specs.Answers.{need}
use Rattle.theory.specs.Maps.{MapValue, side_ok, laid_box, unused, laid_out}
use Rattle.theory.specs.declared.record.BoxRecord.{BoxRecord}
use Rattle.std.specs.Result.{MatchResult}
use Rattle.witness.specs.declared.region.Region.{Region}
use Rattle.witness.specs.Regions.{region_answer, Laid}

-- a grid in range and so many rates leave only the sides to be refused
sides_alone : (a b p : Bool) (e : Refusal) → a ≡ true → b ≡ true → ◌≡◌ {A = Result (Unit {0}) Refusal} (need a BadGrid (need (b && p) BadField (Ok tt))) (Err e) → p ≡ false
sides_alone a b true e ha hb h = absurd (let z : ◌≡◌ {A = ℕ} 0 1 = cc in omega arith)
sides_alone a b false e ha hb h = refl

sides_refused : (G m : ℕ) (low high : List ℕ) (e : Refusal) → (leb 1 G && leb G 1000) ≡ true → 1 ≤ m → m ≤ 4 → region_answer G m low high ≡ Err e → passes (side_ok G low high) m ≡ false
sides_refused G m low high e g a b h = sides_alone (leb 1 G && leb G 1000) (leb 1 m && leb m 4) (passes (side_ok G low high) m) e g (grind (arith, nat_tests)) h

both_true : (a b : Bool) → true ≡ (a && b) → a ≡ true
both_true true b e = refl
both_true false b e = sym e

pub field_refused : (c : Meaning) (m : MapValue) (G L rates : ℕ) (sides : List ℕ) (field : BoxRecord) (made : Result Region Refusal) → Lawful c → rates ≡ c.rates → field ≡ laid_box rates sides
    → true ≡ unused m.boxes → true ≡ ((leb 1 G && leb G 1000) && leb L 1000000) → length sides ≡ 2 * rates
    → MatchResult made (Laid G rates field.low field.high) (λ e. region_answer G rates field.low field.high ≡ Err e) → is_ok made ≡ false → laid_out c m G L sides ≡ Err BadField
field_refused c m G L rates sides field (Ok r) lawful same laid free range long h bad = absurd (true≢false bad)
field_refused c m G L rates sides field (Err e) lawful same laid free range long h bad =
    let r : region_answer G c.rates (laid_box c.rates sides).low (laid_box c.rates sides).high ≡ Err e
    = ap (λ k. region_answer G k (laid_box k sides).low (laid_box k sides).high) (sym same) ∙ ap (λ b. region_answer G rates b.low b.high) (sym laid) ∙ h in
    let p = sides_refused G c.rates (laid_box c.rates sides).low (laid_box c.rates sides).high e (both_true _ _ range) lawful.rates_some lawful.rates_few r in
    let l : eqb (length sides) (2 * c.rates) ≡ true = (Decides-eqb (length sides) (2 * c.rates)).1 (long ∙ ap (λ k. 2 * k) same) in
    rw (sym free, sym range, l, p)
