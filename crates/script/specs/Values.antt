-- What the script as it was read holds.
use Rattle.std.specs.Prelude.{◌≡◌, ℕ, ◌-◌, ◌≤◌, Bool, true, false, cond, ◌&&◌, List, ◌++◌, map, length, take, drop, Some, None, vec_items, Option, ◌==◌, nat_le, slice_index}
use Rattle.std.specs.List.{list_all}
use Rattle.rate_map.specs.Told.{command}
use Rattle.script.specs.Grammar.{Said, bad, end, call, value_of}
use Rattle.script.specs.Reading.{digit, fit, said, line_said}
use Rattle.script.specs.declared.line.Line.{Line}
use Rattle.script.specs.declared.line.Step.{Step}
use Rattle.script.specs.declared.line.Step.TheVariants.{Bad, End, Do}
use Rattle.script.specs.declared.line.Script.{Script}
use Rattle.script.specs.declared.line.Steps.{Steps}

-- the number that a text is, if it is one
abbrev pub number_in : List ℕ → Option ℕ
number_in ds = cond (list_all digit ds && fit (length ds) (value_of 0 ds)) (Some (value_of 0 ds)) None

-- a line without the byte 10 that ends it
abbrev pub without_break : List ℕ → List ℕ
without_break l = cond (slice_index l (length l - 1) == 10) (take (length l - 1) l) l

abbrev pub step_said : Step → Said
step_said Bad = bad
step_said End = end
step_said (Do k) = call (command k)

-- what numbers say behind a letter, if there is one
abbrev pub said_behind : ℕ → Option ℕ → List ℕ → Said
said_behind n None ns = bad
said_behind n (Some letter) ns = said n letter ns

-- what a line says whose numbers stand in a list of numbers, from a place to a place
abbrev pub said_in : ℕ → List ℕ → Line → Said
said_in n numbers l = cond (nat_le l.from l.to && nat_le l.to (length numbers)) (said_behind n l.letter (take (l.to - l.from) (drop l.from numbers))) bad

-- how many lines there are, and what they say
abbrev pub line_count : Script → ℕ
line_count s = length (vec_items s.lines)

abbrev pub said_by : ℕ → Script → List Said
said_by n s = map (said_in n (vec_items s.numbers)) (vec_items s.lines)

-- what the lines still to come say
abbrev pub steps_left : Steps → List Said
steps_left s = map (said_in s.states s.numbers.now) s.lines.now

-- numbers read of a text and added to a list of numbers: well read, it has just those more; else some more, of no meaning
abbrev pub Adds : Bool → Option (List ℕ) → List ℕ → List ℕ → Type 0
Adds true found before after = (ns : List ℕ) × (found ≡ Some ns) × (after ≡ before ++ ns)
Adds false found before after = (ns : List ℕ) × (found ≡ None) × (after ≡ before ++ ns)

-- the numbers of a line stand within a list of numbers
abbrev pub Placed : List ℕ → Line → Type 0
Placed numbers l = l.to ≤ length numbers

-- a line read of a text: its numbers are added to a list of numbers, and it says what the text says
pub record LineRead (text before after : List ℕ) (line : Line) : Type 0 where
  pub more : List ℕ
  pub added : after ≡ before ++ more
  pub placed : Placed after line
  pub says : (n : ℕ) → said_in n after line ≡ line_said n text
