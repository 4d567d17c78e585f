-- How a script is read: each line by its letter and its numbers. What is read is what the grammar says.
use Rattle.std.specs.Prelude.{◌≡◌, ℕ, ◌+◌, ◌-◌, ◌*◌, ◌^◌, Bool, true, false, cond, ◌&&◌, List, [], ◌∷◌, map, take, drop, Some, None, Option, ◌==◌, nat_le, nat_lt}
use Rattle.std.specs.Option.{option_map}
use Rattle.theory.specs.Runs.{Command, lay_out, cut, show_safe, show_unsafe, find_box}
use Rattle.script.specs.Grammar.{Said, bad, end, call, ScriptSays}

-- ---- numbers
abbrev pub digit : ℕ → Bool
digit b = nat_le 48 b && nat_le b 57

-- so many digits may make the number n
abbrev pub fit : ℕ → ℕ → Bool
fit count n = (nat_le 1 count && nat_le count 10) && nat_lt n (2 ^ 32)

abbrev pub kept : ℕ → ℕ → Option (List ℕ) → Option (List ℕ)
kept count n more = cond (fit count n) (option_map (λ ns. n ∷ ns) more) None

-- the numbers of a text that begins within one, whose digits so far, so many, make n
unfoldable pub within : ℕ → ℕ → List ℕ → Option (List ℕ)
within count n [] = kept count n (Some [])
within count n (b ∷ bs) = cond (digit b) (within (count + 1) (10 * n + (b - 48)) bs) (cond (b == 32) (kept count n (within 0 0 bs)) None)

abbrev pub numbers_in : List ℕ → Option (List ℕ)
numbers_in [] = Some []
numbers_in (b ∷ bs) = cond (b == 32) (within 0 0 bs) None

-- ---- lines
abbrev pub laid : List ℕ → Said
laid [] = bad
laid (G ∷ []) = bad
laid (G ∷ L ∷ sides) = call (lay_out G L sides)

abbrev pub cuts : List ℕ → Said
cuts [] = bad
cuts (b ∷ []) = bad
cuts (b ∷ r ∷ []) = bad
cuts (b ∷ r ∷ x ∷ []) = call (cut b r x)
cuts (b ∷ r ∷ x ∷ y ∷ ns) = bad

abbrev pub safes : List ℕ → Said
safes [] = bad
safes (b ∷ v) = call (show_safe b v)

abbrev pub unsafes : ℕ → List ℕ → Said
unsafes n [] = bad
unsafes n (b ∷ vw) = call (show_unsafe b (take n vw) (drop n vw))

abbrev pub asks : List ℕ → Said
asks [] = bad
asks (b ∷ []) = call (find_box b)
asks (b ∷ x ∷ ns) = bad

abbrev pub ends : List ℕ → Said
ends [] = end
ends (x ∷ ns) = bad

-- what a letter and numbers say over a chain of n states
abbrev pub said : ℕ → ℕ → List ℕ → Said
said n letter ns =
    cond (letter == 76) (laid ns)
    (cond (letter == 67) (cuts ns)
    (cond (letter == 83) (safes ns)
    (cond (letter == 85) (unsafes n ns)
    (cond (letter == 81) (asks ns)
    (cond (letter == 69) (ends ns) bad)))))

abbrev pub spelling : ℕ → ℕ → Option (List ℕ) → Said
spelling n letter None = bad
spelling n letter (Some ns) = said n letter ns

abbrev pub line_said : ℕ → List ℕ → Said
line_said n [] = bad
line_said n (b ∷ bs) = spelling n b (numbers_in bs)

-- ---- the script
-- a byte in front of the first line
abbrev pub on_first : ℕ → List (List ℕ) → List (List ℕ)
on_first b [] = (b ∷ []) ∷ []
on_first b (l ∷ ls) = (b ∷ l) ∷ ls

unfoldable pub lines_of : List ℕ → List (List ℕ)
lines_of [] = []
lines_of (b ∷ bs) = cond (b == 10) ([] ∷ lines_of bs) (on_first b (lines_of bs))

-- what the lines of a script say
abbrev pub script_said : ℕ → List ℕ → List Said
script_said n script = map (line_said n) (lines_of script)

-- the calls up to the end, and whether it comes to an end
abbrev pub commands : List Said → List Command
commands [] = []
commands (bad ∷ ss) = commands ss
commands (end ∷ ss) = []
commands (call k ∷ ss) = k ∷ commands ss

abbrev pub closes : List Said → Bool
closes [] = false
closes (bad ∷ ss) = closes ss
closes (end ∷ ss) = true
closes (call k ∷ ss) = closes ss

-- ---- what is proved of it: the reader finds what the grammar says, and there is nothing else to find
abbrev pub ReadsTheGrammar : Type 0
ReadsTheGrammar = (n : ℕ) (script : List ℕ) → ScriptSays n script (script_said n script) × ((ss : List Said) → ScriptSays n script ss → ss ≡ script_said n script)
