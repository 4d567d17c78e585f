-- What the judgement of a witness for a region answers, and what that says of the region's settings.
use Rattle.std.specs.Prelude.{◌≡◌, ℕ, ◌<◌, ◌≤◌, true, ◌&&◌, List, length, Ok, Result, is_ok, ◌==◌}
use Rattle.chain.specs.Chains.{Meaning, Lawful}
use Rattle.chain.specs.declared.refusal.Refusal.{Refusal}
use Rattle.chain.specs.declared.refusal.Refusal.TheVariants.{BadField, BadLength, BadNumber, BadChance}
use Rattle.theory.specs.declared.verdict.Verdict.{Verdict}
use Rattle.theory.specs.declared.verdict.Verdict.TheVariants.{Open, Safe, Unsafe}
use Rattle.theory.specs.Words.{lowest}
use Rattle.theory.specs.Boxes.{Box, Proper, Setting, Inside}
use Rattle.theory.specs.Chance.{KeepsTo, Exceeds}
use Rattle.theory.specs.Answers.{need, each, numbers_ok, chance_ok}
use Rattle.witness.specs.declared.region.Region.{Region}
use Rattle.witness.specs.Regions.{box_of}

-- a region of another number of rates is refused first
abbrev pub judged : {A : Type 0} → Meaning → Region → Result A Refusal → Result A Refusal
judged c r answer = need (r.rates == c.rates) BadField answer

-- what is tried of every witness, a safe one with the same numbers twice
abbrev pub tried : {A : Type 0} → Meaning → Region → List ℕ → List ℕ → Result A Refusal → Result A Refusal
tried c r v w next =
    judged c r
    (need (length v == c.states && length w == c.states) BadLength
    (each (lowest (numbers_ok c v w) c.states) BadNumber
    (each (lowest (chance_ok c r.grid (box_of r)) c.states) BadChance next)))

-- an answer is taken exactly when the conditions hold, and then with the verdict
abbrev pub TakenExactly : Result Verdict Refusal → Type 0 → Verdict → Type 0
TakenExactly answer Conditions verdict = (is_ok answer ≡ true → Conditions) × (Conditions → answer ≡ Ok verdict)

-- what a verdict says of a setting: that the chance keeps to the verdict's bound, and so to the limit, for every number of steps; or that the bound is above the limit, and the chance exceeds the limit within the verdict's steps. An open box is no verdict
abbrev pub Says : Verdict → Meaning → ℕ → Setting → Type 0
Says Open c L x = ⊥
Says (Safe bound) c L x = (bound ≤ L) × ((k : ℕ) → KeepsTo c bound x k) × ((k : ℕ) → KeepsTo c L x k)
Says (Unsafe bound steps) c L x = (L < bound) × Exceeds c L x steps

-- a verdict is right at every setting in the box
abbrev pub Right : Meaning → ℕ → Box → ℕ → Verdict → Type 0
Right c G b L verdict = (x : Setting) → Inside c.rates G b x → Says verdict c L x

-- the conditions show that the verdict is right, over a lawful chain for a box that may exist
abbrev pub Shows : Meaning → ℕ → Box → ℕ → Type 0 → Verdict → Type 0
Shows c G b L Conditions verdict = Lawful c → Proper c.rates G b → Conditions → Right c G b L verdict
