-- What an edge's coefficients are worth: rate by rate, and as the plain sum.
use Rattle.std.specs.Prelude.{ℕ, zero, suc, ◌+◌, ◌-◌, ◌*◌, ◌/◌, ◌%◌, ◌^◌, cond, length, ℤ, pos, ◌+ℤ◌, ◌==◌, slice_index, slice_index_or}
use Rattle.chain.specs.Chains.{Edge, Row}
use Rattle.theory.specs.Words.{◌·◌, sum_to}

-- the coefficient number i of an edge
abbrev pub coef : Edge → ℕ → ℤ
coef e i = slice_index_or e.coefficients i (pos 0)

-- how many rates a row names
abbrev pub named : Row → ℕ
named r = length r.rates

-- what a function of the chain's rates gives at the row's rate number p
abbrev pub of : (ℕ → ℕ) → Row → ℕ → ℕ
of a r p = a (slice_index r.rates p)

-- a table of 2 ^ j coefficients with its rates at g 0 .. g (j - 1) over the denominator d: the last rate is set first, and halves the table
abbrev pub eval : ℕ → (ℕ → ℕ) → ℕ → (ℕ → ℤ) → ℤ
eval d g zero c = c 0
eval d g (suc j) c = eval d g j (λ i. d · c i +ℤ g j · c (i + 2 ^ j))

-- an edge's value, in units of 1 / (unit * d ^ named r)
abbrev pub value : ℕ → (ℕ → ℕ) → Row → Edge → ℤ
value d g r e = eval d g (named r) (coef e)

-- ---- the plain sum
abbrev pub bit : ℕ → ℕ → ℕ
bit p i = i / 2 ^ p % 2

-- the product of those of g 0 .. g (j - 1) whose bit is set in i, and how many these are
abbrev pub product : (ℕ → ℕ) → ℕ → ℕ → ℕ
product g zero i = 1
product g (suc p) i = product g p i * cond (bit p i == 1) (g p) 1

abbrev pub size : ℕ → ℕ → ℕ
size zero i = 0
size (suc p) i = size p i + bit p i

-- an edge's chance at the numerators a over the denominator q, in units of 1 / (unit * q ^ 3): each coefficient times the numerators of its product times q ^ (3 - size of the product)
abbrev pub exact : (ℕ → ℕ) → ℕ → Row → Edge → ℤ
exact a q r e = sum_to (2 ^ named r) (λ i. (product (of a r) (named r) i * q ^ (3 - size (named r) i)) · coef e i)
