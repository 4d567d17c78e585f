-- What the calls of a map answer, and what they leave.
use Rattle.std.specs.Prelude.{◌≡◌, ℕ, ◌<◌, length, Ok, Err, Result}
use Rattle.std.specs.Result.{result_and}
use Rattle.chain.specs.Chains.{Meaning}
use Rattle.chain.specs.declared.refusal.Refusal.{Refusal}
use Rattle.theory.specs.declared.verdict.Verdict.{Verdict}
use Rattle.theory.specs.Boxes.{Box, Proper}
use Rattle.theory.specs.Maps.{MapValue, box_at, sides_of, for_box, keeping, box_answer}
use Rattle.theory.specs.declared.record.BoxRecord.{BoxRecord}
use Rattle.theory.specs.Runs.{or_kept}
use Rattle.witness.specs.Regions.{region_answer}

-- a call that makes what of a map: its answer, and the map after it, which after a refusal is what it was
abbrev pub taken : Result MapValue Refusal → Result (Unit {0}) Refusal
taken (Ok m) = Ok tt
taken (Err e) = Err e

pub record Changes (what : Result MapValue Refusal) (before : MapValue) (r : Result (Unit {0}) Refusal) (exit : MapValue) : Type 0 where
  pub answer : r ≡ taken what
  pub left : exit ≡ or_kept before what

-- the region of a box, where it is one
abbrev pub region_of : Meaning → MapValue → ℕ → Result (Unit {0}) Refusal
region_of c m i = region_answer m.grid c.rates (box_at m.boxes i).low (box_at m.boxes i).high

-- a witness that answers so is judged for the region of its box. In a map that calls have made every box is one, and this is then safe_call or unsafe_call
abbrev pub witness_on : Meaning → MapValue → ℕ → (ℕ → Box → ℕ → Result Verdict Refusal) → Result MapValue Refusal
witness_on c m i answer = for_box m i (result_and (region_of c m i) (keeping m i (answer m.grid (sides_of (box_at m.boxes i)) m.limit)))

-- an answer that a record is to hold
abbrev pub told : Result BoxRecord Refusal → Result (Unit {0}) Refusal
told (Ok b) = Ok tt
told (Err e) = Err e

abbrev pub or_else : BoxRecord → Result BoxRecord Refusal → BoxRecord
or_else b (Ok a) = a
or_else b (Err e) = b

-- one box put into a record, which after a refusal is what it was
pub record FoundIn (m : MapValue) (i : ℕ) (before : BoxRecord) (r : Result (Unit {0}) Refusal) (exit : BoxRecord) : Type 0 where
  pub answer : r ≡ told (box_answer m i)
  pub left : exit ≡ or_else before (box_answer m i)

-- every box is one that may exist, on a grid in range
abbrev pub Fit : Meaning → MapValue → Type 0
Fit c m = (i : ℕ) → i < length m.boxes → Proper c.rates m.grid (sides_of (box_at m.boxes i))
