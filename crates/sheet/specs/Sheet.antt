-- What is shown of a map, as bytes: an answer in a line, and the sheet, a line for each box and a last one with the volumes.
use Rattle.std.specs.Prelude.{ℕ, zero, suc, ◌+◌, ◌*◌, min, List, [], ◌∷◌, ◌++◌, codes, decimal, Ok, Err, slice_index}
use Rattle.chain.specs.Refusals.{number_of, place_of}
use Rattle.chain.specs.declared.refusal.Refusal.{Refusal}
use Rattle.theory.specs.declared.record.Reply.{Reply}
use Rattle.theory.specs.declared.record.Reply.TheVariants.{Done, Count, Found, Measured}
use Rattle.theory.specs.Runs.{Answer}
use Rattle.theory.specs.declared.record.BoxRecord.{BoxRecord}
use Rattle.theory.specs.declared.record.Volumes.{Volumes}
use Rattle.theory.specs.declared.verdict.Verdict.{Verdict}
use Rattle.theory.specs.declared.verdict.Verdict.TheVariants.{Open, Safe, Unsafe}

-- a space and then a number
abbrev pub spaced : ℕ → List ℕ
spaced n = 32 ∷ decimal n

-- low and high of a rate
abbrev pub side : BoxRecord → ℕ → List ℕ
side r k = spaced (slice_index r.low k) ++ spaced (slice_index r.high k)

-- low and high of each of the first k rates
abbrev pub sides : BoxRecord → ℕ → List ℕ
sides r zero = []
sides r (suc k) = sides r k ++ side r k

abbrev pub verdict_words : Verdict → List ℕ
verdict_words Open = codes " open"
verdict_words (Safe bound) = codes " safe" ++ spaced bound
verdict_words (Unsafe bound steps) = codes " unsafe" ++ (spaced bound ++ spaced steps)

-- A line ends with byte 10. A box has four sides, so more rates than 4 count as 4.
abbrev pub box_line : ℕ → ℕ → BoxRecord → List ℕ
box_line number rates r = decimal number ++ (sides r (min rates 4) ++ (verdict_words r.verdict ++ 10 ∷ []))

-- the lines of boxes that are numbered from a number on
abbrev pub box_lines : ℕ → ℕ → List BoxRecord → List ℕ
box_lines number rates [] = []
box_lines number rates (r ∷ rs) = box_line number rates r ++ box_lines (number + 1) rates rs

abbrev pub volumes_line : Volumes → List ℕ
volumes_line v = decimal v.safe ++ (spaced v.exceeding ++ (spaced v.pending ++ 10 ∷ []))

abbrev pub sheet_bytes : ℕ → List BoxRecord → Volumes → List ℕ
sheet_bytes rates boxes v = box_lines 0 rates boxes ++ volumes_line v

-- ---- answers
abbrev pub refused_line : Refusal → List ℕ
refused_line e = codes "refused" ++ (spaced (number_of e) ++ (spaced (place_of e) ++ 10 ∷ []))

-- the line of what is told; where it is a box, with the number of the box
abbrev pub reply_line : ℕ → ℕ → Reply → List ℕ
reply_line number rates Done = codes "ok" ++ 10 ∷ []
reply_line number rates (Count n) = decimal n ++ 10 ∷ []
reply_line number rates (Found r) = box_line number rates r
reply_line number rates (Measured v) = volumes_line v

-- the line of an answer
abbrev pub answer_line : ℕ → ℕ → Answer → List ℕ
answer_line number rates (Ok r) = reply_line number rates r
answer_line number rates (Err e) = refused_line e

-- how long a line can be, and the sheet of so many boxes
abbrev pub longest_line : ℕ
longest_line = 238

abbrev pub longest_sheet : ℕ → ℕ
longest_sheet count = 238 * count + 63
