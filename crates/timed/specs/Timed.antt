-- What the calls answer that are measured: 0, or the number of a refusal.
use Rattle.std.specs.Prelude.{◌≡◌, ℕ, ◌<◌, ◌≤◌, Bool, true, false, List, length, Ok, Err, Result}
use Rattle.chain.specs.Refusals.{number_of}
use Rattle.chain.specs.Chains.{Meaning}
use Rattle.chain.specs.declared.refusal.Refusal.{Refusal}
use Rattle.chain_format.specs.Reader.{Answer as Read, refused, got}
use Rattle.chain_format.specs.Format.{File, meaning}
use Rattle.chain_writer.specs.Wrote.{Wrote}
use Rattle.theory.specs.Maps.{MapValue, new_map, laid_out}
use Rattle.theory.specs.Runs.{or_kept}
use Rattle.theory.specs.declared.verdict.Verdict.{Verdict}
use Rattle.theory.specs.Boxes.{Box}
use Rattle.theory.specs.Answers.{safe_answer, unsafe_answer}
use Rattle.rate_map.specs.Calls.{witness_on}

abbrev pub result_number : {A : Type 0} → Result A Refusal → ℕ
result_number (Ok a) = 0
result_number (Err e) = number_of e

abbrev pub open_number : Read File → ℕ
open_number (refused e) = number_of e
open_number (got f to) = 0

-- a new map, laid out
abbrev pub laid_map : Meaning → ℕ → ℕ → List ℕ → MapValue
laid_map c G L sides = or_kept (new_map c) (laid_out c (new_map c) G L sides)

-- a witness that answers so, for box 0 of it
abbrev pub witness_number : (Meaning → ℕ → Box → ℕ → Result Verdict Refusal) → Meaning → ℕ → ℕ → List ℕ → ℕ
witness_number answer c G L sides = result_number (witness_on c (laid_map c G L sides) 0 (answer c))

abbrev pub safe_number : Meaning → ℕ → ℕ → List ℕ → List ℕ → ℕ
safe_number c G L sides v = witness_number (λ c G b L. safe_answer c G b L v) c G L sides

abbrev pub unsafe_number : Meaning → ℕ → ℕ → List ℕ → List ℕ → List ℕ → ℕ
unsafe_number c G L sides v w = witness_number (λ c G b L. unsafe_answer c G b L v w) c G L sides

-- over the chain of a file
abbrev pub over_file : Read File → (Meaning → ℕ) → ℕ
over_file (refused e) number = number_of e
over_file (got f to) number = number (meaning f)

-- the bytes of a file written to a buffer, if it opens and they fit; else nothing
abbrev pub WritesAgain : Bool → List ℕ → List ℕ → List ℕ → ℕ → Type 0
WritesAgain false file before after r = (r ≡ 0) × (after ≡ before)
WritesAgain true file before after r =
    (length file ≤ length before → (r ≡ length file) × Wrote before after file) × (length before < length file → (r ≡ 0) × (after ≡ before))
