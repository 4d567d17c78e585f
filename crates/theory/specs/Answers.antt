-- What the judgement of a witness answers: the first refusal in the order in which the conditions are tried, at the lowest state, or the verdict.
use Rattle.std.specs.Prelude.{ℕ, ◌*◌, ◌^◌, Bool, true, false, cond, not, ◌&&◌, ◌||◌, List, length, ℤ, pos, ◌+ℤ◌, Some, None, Ok, Err, Option, Result, ◌==◌, int_le, nat_le, nat_lt}
use Rattle.chain.specs.Chains.{Meaning, Row, bad}
use Rattle.chain.specs.declared.refusal.Refusal.{Refusal}
use Rattle.chain.specs.declared.refusal.Refusal.TheVariants.{BadLength, BadNumber, BadChance, BadBound, BadSteps, BadStart}
use Rattle.theory.specs.declared.verdict.Verdict.{Verdict}
use Rattle.theory.specs.declared.verdict.Verdict.TheVariants.{Safe, Unsafe}
use Rattle.theory.specs.Words.{every, lowest, passes}
use Rattle.theory.specs.Values.{named, value}
use Rattle.theory.specs.Boxes.{Box, corner_of}
use Rattle.theory.specs.Chance.{million}
use Rattle.theory.specs.Witness.{Said, at, mean, scale, at_most, at_least, steps, step_number}

-- ---- tests
-- a number of a witness; a bad state has a million
abbrev pub number_ok : Meaning → List ℕ → ℕ → Bool
number_ok c v s = nat_le (at v s) million && (not (bad c s) || at v s == million)

abbrev pub numbers_ok : Meaning → List ℕ → List ℕ → ℕ → Bool
numbers_ok c v w s = number_ok c v s && nat_le (at w s) million

-- chances at one corner, at the corner of a number, and at every corner of the row of a state
abbrev pub possible : ℕ → (ℕ → ℕ) → Row → Bool
possible G g r = every (λ e. int_le (pos 0) (value G g r e)) r.edges

abbrev pub possible_at : ℕ → Box → Row → ℕ → Bool
possible_at G b r t = possible G (corner_of b r t) r

abbrev pub chance_ok : Meaning → ℕ → Box → ℕ → Bool
chance_ok c G b s = passes (possible_at G b (c.row s)) (2 ^ named (c.row s))

-- a claim at one corner, at the corner of a number, and at every corner of the row of a state
abbrev pub in_order : Bool → ℤ → ℤ → Bool
in_order true x y = int_le x y
in_order false x y = int_le y x

abbrev pub kept : Said → ℕ → ℕ → Row → ℕ → (ℕ → ℕ) → Bool
kept k unit G r s g = in_order k.most
    (pos (k.adds s * scale unit G r) +ℤ mean G g r k.number) (pos (k.number s * scale unit G r))

abbrev pub kept_at : Said → ℕ → ℕ → Box → Row → ℕ → ℕ → Bool
kept_at k unit G b r s t = kept k unit G r s (corner_of b r t)

abbrev pub row_ok : Said → ℕ → ℕ → Box → Row → ℕ → Bool
row_ok k unit G b r s = passes (kept_at k unit G b r s) (2 ^ named r)

abbrev pub claim_ok : Said → Meaning → ℕ → Box → ℕ → Bool
claim_ok k c G b s = cond (k.tests (bad c s) s) (row_ok k c.unit G b (c.row s) s) true

-- ---- answers
-- go on where a test passes
abbrev pub need : {A : Type 0} → Bool → Refusal → Result A Refusal → Result A Refusal
need true refusal next = next
need false refusal next = Err refusal

-- go on where a test has failed at no state
abbrev pub each : {A : Type 0} → Option ℕ → (ℕ → Refusal) → Result A Refusal → Result A Refusal
each None refusal next = next
each (Some s) refusal next = Err (refusal s)

abbrev pub safe_answer : Meaning → ℕ → Box → ℕ → List ℕ → Result Verdict Refusal
safe_answer c G b L v =
    need (length v == c.states) BadLength
    (each (lowest (number_ok c v) c.states) BadNumber
    (each (lowest (chance_ok c G b) c.states) BadChance
    (each (lowest (claim_ok (at_most (at v)) c G b) c.states) BadBound
    (need (nat_le (at v c.start) L) BadStart
    (Ok (Safe (at v c.start)))))))

abbrev pub unsafe_answer : Meaning → ℕ → Box → ℕ → List ℕ → List ℕ → Result Verdict Refusal
unsafe_answer c G b L v w =
    need (length v == c.states && length w == c.states) BadLength
    (each (lowest (numbers_ok c v w) c.states) BadNumber
    (each (lowest (chance_ok c G b) c.states) BadChance
    (each (lowest (claim_ok (at_least (at v)) c G b) c.states) BadBound
    (each (lowest (claim_ok (steps (at v) (at w)) c G b) c.states) BadSteps
    (need (nat_lt L (at v c.start)) BadStart
    (Ok (Unsafe (at v c.start) (step_number c L v w))))))))
