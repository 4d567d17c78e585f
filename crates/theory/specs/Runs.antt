-- Lists of calls on a new map, and what is promised of the map that they make.
use Rattle.std.specs.Prelude.{◌≡◌, ℕ, ◌+◌, ◌*◌, ◌<◌, List, [], ◌∷◌, length, Ok, Err, Result}
use Rattle.chain.specs.Chains.{Meaning, Lawful}
use Rattle.chain.specs.declared.refusal.Refusal.{Refusal}
use Rattle.theory.specs.declared.verdict.Verdict.TheVariants.{Safe, Unsafe}
use Rattle.theory.specs.declared.record.BoxRecord.{BoxRecord}
use Rattle.theory.specs.declared.record.Reply.{Reply}
use Rattle.theory.specs.declared.record.Reply.TheVariants.{Done, Count, Found, Measured}
use Rattle.theory.specs.Boxes.{Box, Proper, Setting, Inside}
use Rattle.theory.specs.Chance.{KeepsTo, Exceeds}
use Rattle.theory.specs.Maps.{MapValue, new_map, laid_box, box_at, sides_of, laid_out, split, safe_call, unsafe_call, box_answer, volume, volumes, no_volumes}

-- a call
pub data Command : Type 0 where
  lay_out : (grid limit : ℕ) (sides : List ℕ) → Command
  cut : (number rate place : ℕ) → Command
  show_safe : (number : ℕ) (v : List ℕ) → Command
  show_unsafe : (number : ℕ) (v w : List ℕ) → Command
  count_boxes : Command
  find_box : (number : ℕ) → Command
  measure : Command

-- ---- what the calls make of a map
abbrev pub changed : Meaning → MapValue → Command → Result MapValue Refusal
changed c m (lay_out G L sides) = laid_out c m G L sides
changed c m (cut i r x) = split c m i r x
changed c m (show_safe i v) = safe_call c m i v
changed c m (show_unsafe i v w) = unsafe_call c m i v w
changed c m count_boxes = Ok m
changed c m (find_box i) = Ok m
changed c m measure = Ok m

-- after a refusal the map is what it was
abbrev pub or_kept : MapValue → Result MapValue Refusal → MapValue
or_kept m (Ok n) = n
or_kept m (Err e) = m

abbrev pub after : Meaning → MapValue → Command → MapValue
after c m k = or_kept m (changed c m k)

-- ---- what they answer: a refusal, or what is told where the call is taken
abbrev pub Answer : Type 0
Answer = Result Reply Refusal

abbrev pub done : Result MapValue Refusal → Answer
done (Ok m) = Ok Done
done (Err e) = Err e

abbrev pub found : Result BoxRecord Refusal → Answer
found (Ok b) = Ok (Found b)
found (Err e) = Err e

abbrev pub answer : Meaning → MapValue → Command → Answer
answer c m (lay_out G L sides) = done (laid_out c m G L sides)
answer c m (cut i r x) = done (split c m i r x)
answer c m (show_safe i v) = done (safe_call c m i v)
answer c m (show_unsafe i v w) = done (unsafe_call c m i v w)
answer c m count_boxes = Ok (Count (length m.boxes))
answer c m (find_box i) = found (box_answer m i)
answer c m measure = Ok (Measured (volumes c.rates m.boxes no_volumes))

-- ---- runs
abbrev pub run_from : Meaning → MapValue → List Command → MapValue
run_from c m [] = m
run_from c m (k ∷ ks) = run_from c (after c m k) ks

abbrev pub answers_from : Meaning → MapValue → List Command → List Answer
answers_from c m [] = []
answers_from c m (k ∷ ks) = answer c m k ∷ answers_from c (after c m k) ks

-- ---- the field
-- grid, limit and field of a map
pub record Layout : Type 0 where
  pub grid : ℕ
  pub limit : ℕ
  pub field : BoxRecord

abbrev pub as_made : Meaning → Layout
as_made c = record { grid = 1; limit = 0; field = laid_box c.rates (0 ∷ 1 ∷ 0 ∷ 1 ∷ 0 ∷ 1 ∷ 0 ∷ 1 ∷ []) }

-- a lay out that is taken sets them, and no other call does
abbrev pub set_by : Meaning → Layout → Command → Answer → Layout
set_by c l (lay_out G L sides) (Ok Done) = record { grid = G; limit = L; field = laid_box c.rates sides }
set_by c l (lay_out G L sides) (Ok (Count n)) = l
set_by c l (lay_out G L sides) (Ok (Found b)) = l
set_by c l (lay_out G L sides) (Ok (Measured t)) = l
set_by c l (lay_out G L sides) (Err e) = l
set_by c l (cut i r x) a = l
set_by c l (show_safe i v) a = l
set_by c l (show_unsafe i v w) a = l
set_by c l count_boxes a = l
set_by c l (find_box i) a = l
set_by c l measure a = l

-- as the last lay out taken of a list of calls, with their answers, set them
abbrev pub last_laid : Meaning → Layout → List Command → List Answer → Layout
last_laid c l [] answered = l
last_laid c l (k ∷ ks) [] = l
last_laid c l (k ∷ ks) (a ∷ rest) = last_laid c (set_by c l k a) ks rest

-- ---- the promise
-- a setting lies strictly inside a box
abbrev pub Strictly : ℕ → ℕ → Box → Setting → Type 0
Strictly rates G b x = (r : ℕ) → r < rates
    → (b.low r * x.denominator < G * x.numerator r) × (G * x.numerator r < b.high r * x.denominator)

-- what is promised of the boxes of a map over the chain c: the field is covered, no boxes overlap inside, safe boxes are safe and unsafe boxes unsafe at every setting
pub record Guarantee (c : Meaning) (l : Layout) (bs : List BoxRecord) : Type 0 where
  pub covered : (x : Setting) → Inside c.rates l.grid (sides_of l.field) x
      → (i : ℕ) × (i < length bs) × Inside c.rates l.grid (sides_of (box_at bs i)) x
  pub apart : (x : Setting) (i k : ℕ) → i < length bs → k < length bs
      → Strictly c.rates l.grid (sides_of (box_at bs i)) x → Strictly c.rates l.grid (sides_of (box_at bs k)) x → i ≡ k
  pub safe : (i bound : ℕ) → i < length bs → (box_at bs i).verdict ≡ Safe bound
      → (x : Setting) → Inside c.rates l.grid (sides_of (box_at bs i)) x → (k : ℕ) → KeepsTo c l.limit x k
  pub exceeding : (i bound steps : ℕ) → i < length bs → (box_at bs i).verdict ≡ Unsafe bound steps
      → (x : Setting) → Inside c.rates l.grid (sides_of (box_at bs i)) x → Exceeds c l.limit x steps

-- beside it: the map has the field's grid and limit, its boxes may exist, and their volumes make the field's
pub record Orderly (c : Meaning) (l : Layout) (m : MapValue) : Type 0 where
  pub grid : m.grid ≡ l.grid
  pub limit : m.limit ≡ l.limit
  pub proper : (i : ℕ) → i < length m.boxes → Proper c.rates m.grid (sides_of (box_at m.boxes i))
  pub whole : let t = volumes c.rates m.boxes no_volumes in t.safe + t.exceeding + t.pending ≡ volume c.rates l.field

-- after any list of calls on a new map over any lawful chain
abbrev pub RunsAreSound : Type 0
RunsAreSound = (c : Meaning) → Lawful c → (ks : List Command)
    → let l = last_laid c (as_made c) ks (answers_from c (new_map c) ks) in
    Guarantee c l (run_from c (new_map c) ks).boxes × Orderly c l (run_from c (new_map c) ks)
