-- The pass line: B passes one after another, each tried once and then repeated up to R times.
use Rattle.std.specs.Prelude.{ℕ, ◌+◌, ◌*◌, ◌/◌, ◌%◌, ◌≤◌, cond, List, [], ◌∷◌, ℤ, pos, negsuc, ◌==◌, nat_lt}
use Rattle.chain.specs.Chains.{Edge, Row, Meaning, looping}

-- the passes and repeats that a line may have
abbrev pub Fit : ℕ → ℕ → Type 0
Fit B R = (1 ≤ B) × (B ≤ 64) × (R ≤ 31)

-- ---- states: the tries, pass by pass, then the good end, then the late end
abbrev pub tries : ℕ → ℕ → ℕ
tries B R = B * (R + 1)

abbrev pub late : ℕ → ℕ → ℕ
late B R = tries B R + 1

-- state s is the try number try_of R s of the pass number pass_of R s, both from 0
abbrev pub pass_of : ℕ → ℕ → ℕ
pass_of R s = s / (R + 1)

abbrev pub try_of : ℕ → ℕ → ℕ
try_of R s = s % (R + 1)

-- the first try of the next pass, and after the last pass the good end
abbrev pub next_pass : ℕ → ℕ → ℕ
next_pass R s = (pass_of R s + 1) * (R + 1)

-- ---- rows. Rate 0, p, is the chance that a try jams, and rate 1, t, the chance that the remake after a jam is late
abbrev pub leads : ℕ → List ℤ → Edge
leads s cs = record { successor = s; coefficients = cs }

-- a try that can be repeated leads to the next try with p - p t, onward with 1 - p, and to the late end with p t
abbrev pub repeatable : ℕ → ℕ → ℕ → Row
repeatable again onward end = record {
  rates = 0 ∷ 1 ∷ [];
  edges =
      leads again (pos 0 ∷ pos 1 ∷ pos 0 ∷ negsuc 0 ∷ [])
      ∷ leads onward (pos 1 ∷ negsuc 0 ∷ pos 0 ∷ pos 0 ∷ [])
      ∷ leads end (pos 0 ∷ pos 0 ∷ pos 0 ∷ pos 1 ∷ [])
      ∷ [];
}

-- the last try of a pass leads onward with 1 - p, and to the late end with p
abbrev pub final : ℕ → ℕ → Row
final onward end = record {
  rates = 0 ∷ [];
  edges = leads onward (pos 1 ∷ negsuc 0 ∷ []) ∷ leads end (pos 0 ∷ pos 1 ∷ []) ∷ [];
}

abbrev pub try_row : ℕ → ℕ → ℕ → Row
try_row B R s = cond (nat_lt (try_of R s) R) (repeatable (s + 1) (next_pass R s) (late B R)) (final (next_pass R s) (late B R))

abbrev pub line_row : ℕ → ℕ → ℕ → Row
line_row B R s = cond (nat_lt s (tries B R)) (try_row B R s) (looping 1 s)

-- the late end alone is bad
abbrev pub line_mark : ℕ → ℕ → ℕ → ℕ
line_mark B R s = cond (s == late B R) 1 0

abbrev pub line : ℕ → ℕ → Meaning
line B R = record { states = tries B R + 2; rates = 2; unit = 1; start = 0; mark = line_mark B R; row = line_row B R }
