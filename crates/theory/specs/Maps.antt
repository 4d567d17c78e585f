-- A map as a value, and what each call makes of it.
use Rattle.std.specs.Prelude.{ℕ, zero, suc, ◌+◌, ◌-◌, ◌*◌, Bool, true, false, cond, ◌&&◌, List, [], ◌∷◌, ◌++◌, length, Ok, Err, Result, ◌==◌, nat_le, nat_lt, slice_index_or, slice_set}
use Rattle.chain.specs.Chains.{Meaning}
use Rattle.chain.specs.declared.refusal.Refusal.{Refusal}
use Rattle.chain.specs.declared.refusal.Refusal.TheVariants.{InUse, BadGrid, BadField, NoBox, NotOpen, BadCut, Full}
use Rattle.theory.specs.declared.verdict.Verdict.{Verdict}
use Rattle.theory.specs.declared.verdict.Verdict.TheVariants.{Open, Safe, Unsafe}
use Rattle.theory.specs.declared.record.BoxRecord.{BoxRecord}
use Rattle.theory.specs.declared.record.Volumes.{Volumes}
use Rattle.theory.specs.Words.{passes}
use Rattle.theory.specs.Boxes.{Box}
use Rattle.theory.specs.Chance.{million}
use Rattle.theory.specs.Witness.{at}
use Rattle.theory.specs.Answers.{need, safe_answer, unsafe_answer}

-- what a map holds beside its chain
pub record MapValue : Type 0 where
  pub grid : ℕ
  pub limit : ℕ
  pub boxes : List BoxRecord

abbrev pub most_boxes : ℕ
most_boxes = 128

-- what is read past the last box
abbrev pub no_box : BoxRecord
no_box = record { low = []; high = []; verdict = Open }

abbrev pub box_at : List BoxRecord → ℕ → BoxRecord
box_at bs i = slice_index_or bs i no_box

-- the sides of a box
abbrev pub sides_of : BoxRecord → Box
sides_of b = record { low = at b.low; high = at b.high }

abbrev pub is_open : Verdict → Bool
is_open Open = true
is_open (Safe bound) = false
is_open (Unsafe bound steps) = false

-- ---- lay out
-- low, high, low, high .. for so many rates, as a box; what a box has no rate for is 0
abbrev pub side_at : ℕ → List ℕ → ℕ → ℕ → ℕ
side_at rates sides which r = cond (nat_lt r rates) (at sides (2 * r + which)) 0

abbrev pub laid_box : ℕ → List ℕ → BoxRecord
laid_box rates sides = record {
  low = side_at rates sides 0 0 ∷ side_at rates sides 0 1 ∷ side_at rates sides 0 2 ∷ side_at rates sides 0 3 ∷ [];
  high = side_at rates sides 1 0 ∷ side_at rates sides 1 1 ∷ side_at rates sides 1 2 ∷ side_at rates sides 1 3 ∷ [];
  verdict = Open;
}

-- a map as it is made: one open box from 0 to 1 in every rate
abbrev pub new_map : Meaning → MapValue
new_map c = record { grid = 1; limit = 0; boxes = laid_box c.rates (0 ∷ 1 ∷ 0 ∷ 1 ∷ 0 ∷ 1 ∷ 0 ∷ 1 ∷ []) ∷ [] }

-- the sides of a rate
abbrev pub side_ok : ℕ → List ℕ → List ℕ → ℕ → Bool
side_ok G low high r = nat_lt (at low r) (at high r) && nat_le (at high r) G

abbrev pub unused : List BoxRecord → Bool
unused bs = length bs == 1 && is_open (box_at bs 0).verdict

abbrev pub laid_out : Meaning → MapValue → ℕ → ℕ → List ℕ → Result MapValue Refusal
laid_out c m G L sides =
    need (unused m.boxes) InUse
    (need ((nat_le 1 G && nat_le G 1000) && nat_le L million) BadGrid
    (need (length sides == 2 * c.rates && passes (side_ok G (laid_box c.rates sides).low (laid_box c.rates sides).high) c.rates) BadField
    (Ok (record { grid = G; limit = L; boxes = laid_box c.rates sides ∷ [] }))))

-- ---- split
abbrev pub low_half : BoxRecord → ℕ → ℕ → BoxRecord
low_half b r x = record { low = b.low; high = slice_set b.high r x; verdict = Open }

abbrev pub high_half : BoxRecord → ℕ → ℕ → BoxRecord
high_half b r x = record { low = slice_set b.low r x; high = b.high; verdict = Open }

-- the low half keeps the number, and the high half takes the next
abbrev pub cut_boxes : List BoxRecord → ℕ → ℕ → ℕ → List BoxRecord
cut_boxes bs i r x = slice_set bs i (low_half (box_at bs i) r x) ++ high_half (box_at bs i) r x ∷ []

abbrev pub split : Meaning → MapValue → ℕ → ℕ → ℕ → Result MapValue Refusal
split c m i r x =
    need (nat_lt i (length m.boxes)) NoBox
    (need (is_open (box_at m.boxes i).verdict) NotOpen
    (need (nat_lt r c.rates && (nat_lt (at (box_at m.boxes i).low r) x && nat_lt x (at (box_at m.boxes i).high r))) BadCut
    (need (nat_lt (length m.boxes) most_boxes) Full
    (Ok (record { grid = m.grid; limit = m.limit; boxes = cut_boxes m.boxes i r x })))))

-- ---- witnesses
abbrev pub judged : BoxRecord → Verdict → BoxRecord
judged b v = record { low = b.low; high = b.high; verdict = v }

-- the box keeps the verdict of a witness that is taken
abbrev pub keeping : MapValue → ℕ → Result Verdict Refusal → Result MapValue Refusal
keeping m i (Ok v) = Ok (record { grid = m.grid; limit = m.limit; boxes = slice_set m.boxes i (judged (box_at m.boxes i) v) })
keeping m i (Err e) = Err e

-- what is asked of the box that a witness is for
abbrev pub for_box : {A : Type 0} → MapValue → ℕ → Result A Refusal → Result A Refusal
for_box m i next = need (nat_lt i (length m.boxes)) NoBox (need (is_open (box_at m.boxes i).verdict) NotOpen next)

abbrev pub safe_call : Meaning → MapValue → ℕ → List ℕ → Result MapValue Refusal
safe_call c m i v = for_box m i (keeping m i (safe_answer c m.grid (sides_of (box_at m.boxes i)) m.limit v))

abbrev pub unsafe_call : Meaning → MapValue → ℕ → List ℕ → List ℕ → Result MapValue Refusal
unsafe_call c m i v w = for_box m i (keeping m i (unsafe_answer c m.grid (sides_of (box_at m.boxes i)) m.limit v w))

-- ---- questions
abbrev pub box_answer : MapValue → ℕ → Result BoxRecord Refusal
box_answer m i = need (nat_lt i (length m.boxes)) NoBox (Ok (box_at m.boxes i))

-- the product of the widths of a box
abbrev pub volume : ℕ → BoxRecord → ℕ
volume zero b = 1
volume (suc r) b = volume r b * (at b.high r - at b.low r)

-- a volume counted under a verdict
abbrev pub counted : Verdict → ℕ → Volumes → Volumes
counted Open n t = record { safe = t.safe; exceeding = t.exceeding; pending = t.pending + n }
counted (Safe bound) n t = record { safe = t.safe + n; exceeding = t.exceeding; pending = t.pending }
counted (Unsafe bound steps) n t = record { safe = t.safe; exceeding = t.exceeding + n; pending = t.pending }

abbrev pub no_volumes : Volumes
no_volumes = record { safe = 0; exceeding = 0; pending = 0 }

abbrev pub volumes : ℕ → List BoxRecord → Volumes → Volumes
volumes rates [] t = t
volumes rates (b ∷ bs) t = volumes rates bs (counted b.verdict (volume rates b) t)
