-- Every call keeps what is promised of a map.
use Rattle.std.proofs.Common.{◌≡◌, ℕ, zero, suc, ◌*◌, ◌<◌, ◌≤◌, Bool, true, false, ◌&&◌, eqb, ltb, leb, List, [], ◌∷◌, length, is_ok, Ok, Err, Result, sym, refl, ◌∙◌, subst, arith}
use Rattle.std.proofs.lemmas.Bool.{ltb-true, leb-true, and_parts}
use Rattle.chain.specs.Chains.{Meaning, Lawful}
use Rattle.chain.specs.declared.refusal.Refusal.{Refusal}
use Rattle.chain.specs.declared.refusal.Refusal.TheVariants.{InUse, BadGrid, BadField, NoBox, NotOpen, BadCut, Full}
use Rattle.theory.specs.declared.verdict.Verdict.{Verdict}
use Rattle.theory.specs.declared.verdict.Verdict.TheVariants.{Safe, Unsafe}
use Rattle.theory.specs.declared.record.BoxRecord.{BoxRecord}
use Rattle.theory.specs.Words.{passes}
use Rattle.theory.specs.Boxes.{Proper}
use Rattle.theory.specs.Chance.{million, Exceeds}
use Rattle.theory.specs.Witness.{at, step_number}
use Rattle.theory.specs.Answers.{need, safe_answer, unsafe_answer}
use Rattle.theory.specs.Maps.{MapValue, new_map, laid_box, side_ok, box_at, sides_of, is_open, most_boxes, unused, laid_out, cut_boxes, split, keeping, for_box, safe_call, unsafe_call}
use Rattle.theory.specs.Runs.{Command, Layout, Guarantee, Orderly, RunsAreSound, as_made, set_by, last_laid, after, answer, or_kept, done, run_from, answers_from, lay_out, cut, show_safe, show_unsafe, count_boxes, find_box, measure}
use Rattle.theory.proofs.Lowest.{passes_decides}
use Rattle.theory.proofs.Sound.{safe_is_safe, unsafe_is_unsafe}
use Rattle.theory.proofs.Taken.{safe_taken_exactly, unsafe_taken_exactly}
use Rattle.theory.proofs.Cover.{Shown, open_safe, open_unsafe, Long, Cuts, low_long, high_long, low_proper, high_proper, cut-each, guarantee_cut, judged_boxes, judged-each, guarantee_judged}
use Rattle.theory.proofs.Volume.{volumes-total, total-cut, total-judged}

-- what every call keeps: the promise, and sides that reach every rate
pub record Inv (c : Meaning) (l : Layout) (m : MapValue) : Type 0 where
  pub long : (i : ℕ) → i < length m.boxes → Long (box_at m.boxes i)
  pub guarantee : Guarantee c l m.boxes
  pub order : Orderly c l m

-- ---- one open box
abbrev laid : Meaning → ℕ → ℕ → List ℕ → Layout
laid c G L sides = record { grid = G; limit = L; field = laid_box c.rates sides }

abbrev alone : Meaning → ℕ → ℕ → List ℕ → MapValue
alone c G L sides = record { grid = G; limit = L; boxes = laid_box c.rates sides ∷ [] }

abbrev sides_ok : ℕ → ℕ → List ℕ → Bool
sides_ok rates G sides = passes (side_ok G (laid_box rates sides).low (laid_box rates sides).high) rates

module _ (c : Meaning) (G L : ℕ) (sides : List ℕ) (some : 1 ≤ G) (ok : sides_ok c.rates G sides ≡ true) where
  abbrev b : BoxRecord
  b = laid_box c.rates sides

  side_parts : (r : ℕ) → r < c.rates → (ltb (at b.low r) (at b.high r) ≡ true) × (leb (at b.high r) G ≡ true)
  side_parts r h = and_parts _ _ ((passes_decides (side_ok G b.low b.high) c.rates).0 ok r h)

  laid_proper : Proper c.rates G (sides_of b)
  laid_proper = record {
    grid = some;
    wide = λ r h. ltb-true _ _ (side_parts r h).0;
    within = λ r h. leb-true _ _ (side_parts r h).1;
  }

  inv_laid : Inv c (laid c G L sides) (alone c G L sides)
  inv_laid = record {
    long = λ i h. let e : i ≡ 0 = omega arith in rw e (record { low = refl; high = refl });
    guarantee = record {
      covered = λ x s. (0, omega arith, s);
      apart = λ x i k h j s t. omega arith;
      safe = λ i bound h e. let z : i ≡ 0 = omega arith in absurd (open_safe (rw z at e));
      exceeding = λ i bound steps h e. let z : i ≡ 0 = omega arith in absurd (open_unsafe (rw z at e));
    };
    order = record {
      grid = refl;
      limit = refl;
      proper = λ i h. let e : i ≡ 0 = omega arith in rw e laid_proper;
      whole = omega arith;
    };
  }

abbrev units : List ℕ
units = 0 ∷ 1 ∷ 0 ∷ 1 ∷ 0 ∷ 1 ∷ 0 ∷ 1 ∷ []

units_ok : (rates : ℕ) → rates ≤ 4 → sides_ok rates 1 units ≡ true
units_ok zero h = refl
units_ok (suc zero) h = refl
units_ok (suc (suc zero)) h = refl
units_ok (suc (suc (suc zero))) h = refl
units_ok (suc (suc (suc (suc zero)))) h = refl
units_ok (suc (suc (suc (suc (suc n))))) h = absurd (omega arith)

pub inv_new : (c : Meaning) → Lawful c → Inv c (as_made c) (new_map c)
inv_new c lawful = inv_laid c 1 0 units (omega arith) (units_ok c.rates lawful.rates_few)

-- ---- a box cut, and a box judged
module _ {c : Meaning} {l : Layout} {m : MapValue} (inv : Inv c l m) (i : ℕ) (h : i < length m.boxes) where
  inv_cut : (r x : ℕ) → Cuts c.rates (box_at m.boxes i) r x → Inv c l (record { grid = m.grid; limit = m.limit; boxes = cut_boxes m.boxes i r x })
  inv_cut r x may = record {
    long = cut-each m.boxes i r x h Long (low_long may) (high_long may) inv.long;
    guarantee = guarantee_cut inv.guarantee i r x h may;
    order = record {
      grid = inv.order.grid;
      limit = inv.order.limit;
      proper = let p = inv.order.proper i h in
          cut-each m.boxes i r x h (λ b. Proper c.rates m.grid (sides_of b)) (low_proper may m.grid p) (high_proper may m.grid p) inv.order.proper;
      whole = volumes-total c.rates (cut_boxes m.boxes i r x) ∙ total-cut c.rates m.boxes i h r x may
          ∙ sym (volumes-total c.rates m.boxes) ∙ inv.order.whole;
    };
  }

  inv_judged : (v : Verdict) → Shown c m.grid m.limit (box_at m.boxes i) v
      → Inv c l (record { grid = m.grid; limit = m.limit; boxes = judged_boxes m.boxes i v h })
  inv_judged v shown = record {
    long = judged-each m.boxes i v h Long (let b = inv.long i h in record { low = b.low; high = b.high }) inv.long;
    guarantee = guarantee_judged inv.guarantee i v h (rw (inv.order.grid, inv.order.limit) at shown);
    order = record {
      grid = inv.order.grid;
      limit = inv.order.limit;
      proper = judged-each m.boxes i v h (λ b. Proper c.rates m.grid (sides_of b)) (inv.order.proper i h) inv.order.proper;
      whole = volumes-total c.rates (judged_boxes m.boxes i v h) ∙ total-judged c.rates m.boxes i h v
          ∙ sym (volumes-total c.rates m.boxes) ∙ inv.order.whole;
    };
  }

safe_unsafe : {bound bound' steps : ℕ} → Safe bound ≡ Unsafe bound' steps → ⊥
safe_unsafe e = let z : ◌≡◌ {A = ℕ} 0 1 = cc in omega arith

-- ---- one call
-- a map that is answered has P
data Only (P : MapValue → Type 0) : Result MapValue Refusal → Type 0 where
  refused : {e : Refusal} → Only P (Err e)
  taken : {n : MapValue} → P n → Only P (Ok n)

module _ {P : MapValue → Type 0} where
  by_need : {t : Bool} {next : Result MapValue Refusal} (e : Refusal) → (t ≡ true → Only P next) → Only P (need t e next)
  by_need {t = true} e f = f refl
  by_need {t = false} e f = refused

  by_taken : (m : MapValue) (i : ℕ) (a : Result Verdict Refusal) → (is_ok a ≡ true → Only P (keeping m i a)) → Only P (keeping m i a)
  by_taken m i (Ok v) f = f refl
  by_taken m i (Err e) f = refused

  -- a witness for a box
  by_box : (m : MapValue) (i : ℕ) (a : Result Verdict Refusal) → (i < length m.boxes → is_ok a ≡ true → Only P (keeping m i a)) → Only P (for_box m i (keeping m i a))
  by_box m i a f =
      by_need NoBox (λ (here : ltb i (length m.boxes) ≡ true).
      by_need NotOpen (λ (_ : is_open (box_at m.boxes i).verdict ≡ true).
      by_taken m i a (f (ltb-true i (length m.boxes) here))))

taken-lay_out : (c : Meaning) (m : MapValue) (G L : ℕ) (sides : List ℕ) → Only (Inv c (laid c G L sides)) (laid_out c m G L sides)
taken-lay_out c m G L sides =
    by_need InUse (λ (_ : unused m.boxes ≡ true).
    by_need BadGrid (λ (grid : ((leb 1 G && leb G 1000) && leb L million) ≡ true).
    by_need BadField (λ (ok : (eqb (length sides) (2 * c.rates) && sides_ok c.rates G sides) ≡ true).
    taken (inv_laid c G L sides (leb-true 1 G (and_parts _ _ (and_parts _ _ grid).0).0) (and_parts _ _ ok).1))))

module _ {c : Meaning} {l : Layout} {m : MapValue} (lawful : Lawful c) (inv : Inv c l m) where
  taken-cut : (i r x : ℕ) → Only (Inv c l) (split c m i r x)
  taken-cut i r x = let b = box_at m.boxes i in
      by_need NoBox (λ (here : ltb i (length m.boxes) ≡ true).
      by_need NotOpen (λ (_ : is_open b.verdict ≡ true).
      by_need BadCut (λ (ok : (ltb r c.rates && (ltb (at b.low r) x && ltb x (at b.high r))) ≡ true).
      by_need Full (λ (_ : ltb (length m.boxes) most_boxes ≡ true).
      let h = ltb-true i (length m.boxes) here in
      let sides = and_parts (ltb (at b.low r) x) _ (and_parts _ _ ok).1 in
      taken (inv_cut inv i h r x (record {
        long = inv.long i h;
        few = lawful.rates_few;
        rate = ltb-true r c.rates (and_parts _ _ ok).0;
        above = ltb-true (at b.low r) x sides.0;
        below = ltb-true x (at b.high r) sides.1;
      }))))))

  taken_safe : (i : ℕ) (v : List ℕ) → Only (Inv c l) (safe_call c m i v)
  taken_safe i v = let b = sides_of (box_at m.boxes i) in let exactly = safe_taken_exactly c m.grid m.limit b v in
      by_box m i (safe_answer c m.grid b m.limit v) (λ h ok. let w = exactly.0 ok in
      subst (λ a. Only (Inv c l) (keeping m i a)) (sym (exactly.1 w)) (taken (inv_judged inv i h (Safe (at v c.start)) (
        λ _ _. safe_is_safe c m.grid m.limit b v lawful (inv.order.proper i h) w,
        λ _ _ e. absurd (safe_unsafe e),
      ))))

  taken_unsafe : (i : ℕ) (v w : List ℕ) → Only (Inv c l) (unsafe_call c m i v w)
  taken_unsafe i v w = let b = sides_of (box_at m.boxes i) in let exactly = unsafe_taken_exactly c m.grid m.limit b v w in
      by_box m i (unsafe_answer c m.grid b m.limit v w) (λ h ok. let u = exactly.0 ok in
      subst (λ a. Only (Inv c l) (keeping m i a)) (sym (exactly.1 u)) (taken (inv_judged inv i h (Unsafe (at v c.start) (step_number c m.limit v w)) (
        λ _ e. absurd (safe_unsafe (sym e)),
        λ _ steps e x s. let same : step_number c m.limit v w ≡ steps = cc in
            subst (Exceeds c m.limit x) same (unsafe_is_unsafe c m.grid m.limit b v w lawful (inv.order.proper i h) u x s),
      ))))

-- a refusal leaves the map, and the layout too
module _ {c : Meaning} {l : Layout} {m : MapValue} (inv : Inv c l m) where
  or_kept_lem : (a : Result MapValue Refusal) → Only (Inv c l) a → Inv c l (or_kept m a)
  or_kept_lem _ refused = inv
  or_kept_lem _ (taken p) = p

  or_laid : (G L : ℕ) (sides : List ℕ) (a : Result MapValue Refusal) → Only (Inv c (laid c G L sides)) a
      → Inv c (set_by c l (lay_out G L sides) (done a)) (or_kept m a)
  or_laid G L sides _ refused = inv
  or_laid G L sides _ (taken p) = p

-- a call, taken or refused, keeps it
pub inv_kept : (c : Meaning) → Lawful c → (l : Layout) (m : MapValue) → Inv c l m → (k : Command) → Inv c (set_by c l k (answer c m k)) (after c m k)
inv_kept c lawful l m inv (lay_out G L sides) = or_laid inv G L sides (laid_out c m G L sides) (taken-lay_out c m G L sides)
inv_kept c lawful l m inv (cut i r x) = or_kept_lem inv (split c m i r x) (taken-cut lawful inv i r x)
inv_kept c lawful l m inv (show_safe i v) = or_kept_lem inv (safe_call c m i v) (taken_safe lawful inv i v)
inv_kept c lawful l m inv (show_unsafe i v w) = or_kept_lem inv (unsafe_call c m i v w) (taken_unsafe lawful inv i v w)
inv_kept c lawful l m inv count_boxes = inv
inv_kept c lawful l m inv (find_box i) = inv
inv_kept c lawful l m inv measure = inv

-- ---- any list of calls
pub inv_run : (c : Meaning) → Lawful c → (l : Layout) (m : MapValue) → Inv c l m → (ks : List Command)
    → Inv c (last_laid c l ks (answers_from c m ks)) (run_from c m ks)
inv_run c lawful l m inv [] = inv
inv_run c lawful l m inv (k ∷ ks) = inv_run c lawful (set_by c l k (answer c m k)) (after c m k) (inv_kept c lawful l m inv k) ks

pub runs_are_sound : RunsAreSound
runs_are_sound c lawful ks = let inv = inv_run c lawful (as_made c) (new_map c) (inv_new c lawful) ks in (inv.guarantee, inv.order)
