-- What is printed for a chain file and a script.
use Rattle.std.specs.Prelude.{ℕ, cond, List, [], ◌∷◌, ◌++◌, length, nat_le}
use Rattle.chain.specs.Chains.{Meaning}
use Rattle.chain.specs.declared.refusal.Refusal.TheVariants.{TooLong, BadLine}
use Rattle.chain_format.specs.Reader.{Answer as Read, refused, got}
use Rattle.chain_format.specs.Format.{File, opened, meaning}
use Rattle.theory.specs.Maps.{MapValue, new_map, volumes, no_volumes}
use Rattle.theory.specs.Runs.{Answer, run_from, answers_from}
use Rattle.rate_map.specs.Told.{box_asked}
use Rattle.sheet.specs.Sheet.{refused_line, answer_line, sheet_bytes}
use Rattle.script.specs.Grammar.{Said, bad, end, call}
use Rattle.script.specs.Reading.{script_said, commands, closes}

-- the most bytes of a file and of a script
abbrev pub most_bytes : ℕ
most_bytes = 65536

-- a line for each line of a script, up to its end: that it has no form, or the answer to its call
abbrev pub texts : ℕ → List Said → List Answer → List ℕ
texts rates [] answers = []
texts rates (bad ∷ ss) answers = refused_line BadLine ++ texts rates ss answers
texts rates (end ∷ ss) answers = []
texts rates (call k ∷ ss) [] = []
texts rates (call k ∷ ss) (a ∷ answers) = answer_line (box_asked k) rates a ++ texts rates ss answers

abbrev pub sheet_of : Meaning → MapValue → List ℕ
sheet_of c m = sheet_bytes c.rates m.boxes (volumes c.rates m.boxes no_volumes)

-- what is shown of a script, the map that its calls make and their answers: the lines, and the sheet if the script comes to its end
abbrev pub shown : Meaning → List Said → MapValue → List Answer → List ℕ
shown c ss m answers = texts c.rates ss answers ++ cond (closes ss) (sheet_of c m) []

-- over a chain
abbrev pub map_output : Meaning → List Said → List ℕ
map_output c ss = shown c ss (run_from c (new_map c) (commands ss)) (answers_from c (new_map c) (commands ss))

-- the file is tried first, then the length of the script
abbrev pub opened_output : Read File → List ℕ → List ℕ
opened_output (refused e) script = refused_line e
opened_output (got f to) script = cond (nat_le (length script) most_bytes) (map_output (meaning f) (script_said (meaning f).states script)) (refused_line TooLong)

abbrev pub job_output : List ℕ → List ℕ → List ℕ
job_output file script = cond (nat_le (length file) most_bytes) (opened_output (opened file) script) (refused_line TooLong)
