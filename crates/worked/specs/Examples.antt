-- What the judgement answers on the samples.
use Rattle.std.specs.Prelude.{◌≡◌, ℕ, List, [], ◌∷◌, pos, Some, None, Ok, Err, Result, slice_index_or}
use Rattle.chain.specs.Chains.{Row, Edge}
use Rattle.chain.specs.declared.refusal.Refusal.{Refusal}
use Rattle.chain.specs.declared.refusal.Refusal.TheVariants.{BadChance, BadBound, BadSteps, BadStart}
use Rattle.theory.specs.declared.verdict.Verdict.{Verdict}
use Rattle.theory.specs.declared.verdict.Verdict.TheVariants.{Safe, Unsafe}
use Rattle.theory.specs.Words.{lowest}
use Rattle.theory.specs.Values.{value}
use Rattle.theory.specs.Boxes.{Box}
use Rattle.theory.specs.Witness.{at}
use Rattle.theory.specs.Answers.{chance_ok, safe_answer, unsafe_answer}
use Rattle.pass_line.specs.Line.{line}
use Rattle.worked.specs.Samples.{relay, single, doubled}

-- the box with these low and high grid numbers, rate by rate
abbrev pub box_of : List ℕ → List ℕ → Box
box_of low high = record { low = at low; high = at high }

abbrev pub Judged : Type 0
Judged = Result Verdict Refusal

-- the relay on the grid 10, with rate 0 from 1 to 5 and rate 1 from 2 to 6
abbrev pub relay_safe : ℕ → List ℕ → Judged
relay_safe = safe_answer relay 10 (box_of (1 ∷ 2 ∷ []) (5 ∷ 6 ∷ []))

abbrev pub relay_unsafe : ℕ → List ℕ → List ℕ → Judged
relay_unsafe = unsafe_answer relay 10 (box_of (1 ∷ 2 ∷ []) (5 ∷ 6 ∷ []))

-- the chain of one state on the grid 10, with its rate from 1 to 5
abbrev pub single_unsafe : ℕ → List ℕ → List ℕ → Judged
single_unsafe = unsafe_answer single 10 (box_of (1 ∷ []) (5 ∷ []))

-- the doubled chain on the grid 10, with its rate from 1 to the given number
abbrev pub doubled_box : ℕ → Box
doubled_box top = box_of (1 ∷ []) (top ∷ [])

-- the first try of the pass line of three passes, each repeated up to twice; its first edge, p - p t, leads to the second try
abbrev pub first_try : Row
first_try = (line 3 2).row 0

abbrev pub first_edge : Edge
first_edge = slice_index_or first_try.edges 0 (record { successor = 0; coefficients = [] })

pub record Worked : Type 0 where
  -- a safe witness of the relay, and what refuses it: a lower limit, or a number one less
  pub relay_is_safe : relay_safe 450000 (444445 ∷ 888889 ∷ 1000000 ∷ 0 ∷ []) ≡ Ok (Safe 444445)
  pub safe_limit_low : relay_safe 444444 (444445 ∷ 888889 ∷ 1000000 ∷ 0 ∷ []) ≡ Err BadStart
  pub safe_first_low : relay_safe 450000 (444444 ∷ 888889 ∷ 1000000 ∷ 0 ∷ []) ≡ Err (BadBound 0)
  pub safe_second_low : relay_safe 450000 (444445 ∷ 888888 ∷ 1000000 ∷ 0 ∷ []) ≡ Err (BadBound 1)
  -- an unsafe witness of the relay, and what refuses it: a higher limit, or too few rounds
  pub relay_is_unsafe : relay_unsafe 40000 (42500 ∷ 425500 ∷ 1000000 ∷ 0 ∷ []) (3 ∷ 3 ∷ 0 ∷ 0 ∷ []) ≡ Ok (Unsafe 42500 1201)
  pub unsafe_limit_high : relay_unsafe 42500 (42500 ∷ 425500 ∷ 1000000 ∷ 0 ∷ []) (3 ∷ 3 ∷ 0 ∷ 0 ∷ []) ≡ Err BadStart
  pub unsafe_rounds_few : relay_unsafe 40000 (42500 ∷ 425500 ∷ 1000000 ∷ 0 ∷ []) (2 ∷ 3 ∷ 0 ∷ 0 ∷ []) ≡ Err (BadSteps 0)
  -- where no step leaves a state, no number of rounds is enough: a step always asks for one more
  pub never_left : single_unsafe 0 (1000000 ∷ []) (5 ∷ []) ≡ Err (BadSteps 0)
  -- p - p t of the pass line at p = 3 and t = 5, in hundredths
  pub jam_remade : value 10 (at (3 ∷ 5 ∷ [])) first_try first_edge ≡ pos 15
  -- twice a rate is a chance up to a half of the grid, and no further
  pub half_passes : lowest (chance_ok doubled 10 (doubled_box 5)) doubled.states ≡ None
  pub half_exceeded : lowest (chance_ok doubled 10 (doubled_box 6)) doubled.states ≡ Some 0
  pub half_safe : safe_answer doubled 10 (doubled_box 5) 0 (0 ∷ 0 ∷ []) ≡ Ok (Safe 0)
  pub over_half_refused : safe_answer doubled 10 (doubled_box 6) 0 (0 ∷ 0 ∷ []) ≡ Err (BadChance 0)
