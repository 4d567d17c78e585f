-- What is promised of a job: what it prints is of a map that keeps the promise.
use Rattle.std.specs.Prelude.{◌≡◌, ℕ, ◌≤◌, List, length}
use Rattle.chain.specs.Chains.{Meaning}
use Rattle.chain_format.specs.Format.{Opens}
use Rattle.theory.specs.Maps.{MapValue, new_map}
use Rattle.theory.specs.Runs.{Answer, run_from, answers_from, as_made, last_laid, Guarantee, Orderly}
use Rattle.script.specs.Grammar.{Said, ScriptSays}
use Rattle.script.specs.Reading.{commands}
use Rattle.job.specs.Output.{most_bytes, shown}

-- the file opens, and neither it nor the script is too long
pub record Runs (file script : List ℕ) : Type 0 where
  pub file_short : length file ≤ most_bytes
  pub opens : Opens file
  pub script_short : length script ≤ most_bytes

-- the output is of a map over the chain c. The map and the answers are what the calls of the script make, and over the field and the limit as the last lay out taken set them, or as made, the field is covered, boxes are apart inside, safe boxes are safe and unsafe boxes unsafe at every setting
pub record Mapped (c : Meaning) (script output : List ℕ) : Type 0 where
  pub said : List Said
  pub map : MapValue
  pub answers : List Answer
  pub reads : ScriptSays c.states script said
  pub value : map ≡ run_from c (new_map c) (commands said)
  pub answered : answers ≡ answers_from c (new_map c) (commands said)
  pub guarantee : Guarantee c (last_laid c (as_made c) (commands said) answers) map.boxes
  pub order : Orderly c (last_laid c (as_made c) (commands said) answers) map
  pub output_is : output ≡ shown c said map answers
