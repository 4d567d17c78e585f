-- A part of a file as the code holds it, and what a call that reads from it answers.
use Rattle.std.specs.Prelude.{◌≡◌, ℕ, ◌+◌, length, Result, Ok, Err}
use Rattle.chain.specs.declared.refusal.Refusal.{Refusal}
use Rattle.chain_format.specs.Reader.{Answer, refused, got, Part, part}
use Rattle.chain_file.specs.declared.part.Part.{Part as Held}
use Rattle.chain_file.specs.Faults.{fault_of}

abbrev pub part_of : Held → Part
part_of p = part p.bytes.now (p.at + length p.rest.now) (fault_of p.section)

-- the answer of a call that leaves the part at a place
abbrev pub answer_of : {A : Type 0} → Result A Refusal → ℕ → Answer A
answer_of (Ok v) to = got v to
answer_of (Err e) to = refused e

-- the same, of the value that is seen in what the call returns
abbrev pub answer_by : {A B : Type 0} → (B → A) → Result B Refusal → ℕ → Answer A
answer_by view (Ok v) to = got (view v) to
answer_by view (Err e) to = refused e

-- the answer is of a value that the call returns in another form
abbrev pub Shows : {A B : Type 0} → (A → B) → Answer A → Result B Refusal → ℕ → Type 0
Shows {A} view answer (Ok x) to = (v : A) × (answer ≡ got v to) × (x ≡ view v)
Shows {A} view answer (Err e) to = answer ≡ refused e
