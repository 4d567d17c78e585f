-- The samples keep every rule and limit.
use Rattle.std.specs.Prelude.{◌≡◌, ℕ, zero, suc, ◌<◌, ◌≤◌, [], ◌∷◌, ℤ, pos, negsuc, ◌+ℤ◌, refl}
use Rattle.std.proofs.Common.{arith, lit≤, lit<}
use Rattle.std.specs.Int.Signed.{le_z_yes}
use Rattle.std.specs.List.{AllByRecursion}
use Rattle.chain.specs.Chains.{Lawful, LawfulRow, Limited, looping, total, due}
use Rattle.worked.specs.declared.samples.Sample.{Sample}
use Rattle.worked.specs.declared.samples.Sample.TheVariants.{Relay, Single, Doubled}
use Rattle.worked.specs.Samples.{edge, fork, relay, relay_row, single, doubled, doubled_row, meaning_of}

-- ---- coefficients
none : Limited (pos 0)
none = (le_z_yes tt, le_z_yes tt)

plus : Limited (pos 1)
plus = (le_z_yes tt, le_z_yes tt)

minus : Limited (negsuc 0)
minus = (le_z_yes tt, le_z_yes tt)

two : Limited (pos 2)
two = (le_z_yes tt, le_z_yes tt)

minus_two : Limited (negsuc 1)
minus_two = (le_z_yes tt, le_z_yes tt)

-- ---- rows
looping_lawful : (states rates s : ℕ) → s < states → LawfulRow states rates 1 (looping 1 s)
looping_lawful states rates s h = record {
  rates_few = lit≤ tt;
  rates_rise = tt;
  edges_some = lit≤ tt;
  edges_few = lit≤ tt;
  edges_rise = (omega arith, h, tt);
  edges_lawful = (record { many = refl; limits = (plus, tt) }, tt);
  sums = sums;
}
  where
    sums : (i : ℕ) → i < 1 → total i (looping 1 s).edges ≡ due 1 i
    sums zero h = refl
    sums (suc i) h = absurd (omega arith)

fork_lawful : (states rates r s t : ℕ) (a b c d : ℤ) → r < rates → s < t → t < states
    → AllByRecursion Limited (a ∷ b ∷ c ∷ d ∷ []) → a +ℤ (c +ℤ pos 0) ≡ pos 1 → b +ℤ (d +ℤ pos 0) ≡ pos 0
    → LawfulRow states rates 1 (fork r (edge s a b) (edge t c d))
fork_lawful states rates r s t a b c d r-in rise t-in limits one rest = record {
  rates_few = lit≤ tt;
  rates_rise = (omega arith, r-in, tt);
  edges_some = lit≤ tt;
  edges_few = lit≤ tt;
  edges_rise = (omega arith, omega arith, (omega arith, t-in, tt));
  edges_lawful = (
    record { many = refl; limits = (limits.0, (limits.1.0, tt)) },
    (record { many = refl; limits = (limits.1.1.0, (limits.1.1.1.0, tt)) }, tt),
  );
  sums = sums;
}
  where
    sums : (i : ℕ) → i < 2 → total i (fork r (edge s a b) (edge t c d)).edges ≡ due 1 i
    sums zero h = one
    sums (suc zero) h = rest
    sums (suc (suc i)) h = absurd (omega arith)

-- ---- chains
relay-rows : (s : ℕ) → s < 4 → LawfulRow 4 2 1 (relay_row s)
relay-rows zero h = fork_lawful 4 2 0 1 3 (pos 0) (pos 1) (pos 1) (negsuc 0) (lit< tt) (lit< tt) (lit< tt)
    (none, (plus, (plus, (minus, tt)))) refl refl
relay-rows (suc zero) h = fork_lawful 4 2 1 0 2 (pos 0) (pos 1) (pos 1) (negsuc 0) (lit< tt) (lit< tt) (lit< tt)
    (none, (plus, (plus, (minus, tt)))) refl refl
relay-rows (suc (suc zero)) h = looping_lawful 4 2 2 h
relay-rows (suc (suc (suc zero))) h = looping_lawful 4 2 3 h
relay-rows (suc (suc (suc (suc s)))) h = absurd (omega arith)

relay-marks : (s : ℕ) → s < 4 → relay.mark s ≤ 1
relay-marks zero h = lit≤ tt
relay-marks (suc zero) h = lit≤ tt
relay-marks (suc (suc zero)) h = lit≤ tt
relay-marks (suc (suc (suc zero))) h = lit≤ tt
relay-marks (suc (suc (suc (suc s)))) h = absurd (omega arith)

pub relay_lawful : Lawful relay
relay_lawful = record {
  states_some = lit≤ tt;
  states_few = lit≤ tt;
  rates_some = lit≤ tt;
  rates_few = lit≤ tt;
  unit_some = lit≤ tt;
  unit_few = lit≤ tt;
  starts = lit< tt;
  marks = relay-marks;
  rows = relay-rows;
}

pub single_lawful : Lawful single
single_lawful = record {
  states_some = lit≤ tt;
  states_few = lit≤ tt;
  rates_some = lit≤ tt;
  rates_few = lit≤ tt;
  unit_some = lit≤ tt;
  unit_few = lit≤ tt;
  starts = lit< tt;
  marks = λ s h. lit≤ tt;
  rows = looping_lawful 1 1;
}

doubled-rows : (s : ℕ) → s < 2 → LawfulRow 2 1 1 (doubled_row s)
doubled-rows zero h = fork_lawful 2 1 0 0 1 (pos 1) (negsuc 1) (pos 0) (pos 2) (lit< tt) (lit< tt) (lit< tt)
    (plus, (minus_two, (none, (two, tt)))) refl refl
doubled-rows (suc zero) h = looping_lawful 2 1 1 h
doubled-rows (suc (suc s)) h = absurd (omega arith)

pub doubled_lawful : Lawful doubled
doubled_lawful = record {
  states_some = lit≤ tt;
  states_few = lit≤ tt;
  rates_some = lit≤ tt;
  rates_few = lit≤ tt;
  unit_some = lit≤ tt;
  unit_few = lit≤ tt;
  starts = lit< tt;
  marks = λ s h. lit≤ tt;
  rows = doubled-rows;
}

-- ---- every sample
pub samples_lawful : (c : Sample) → Lawful (meaning_of c)
samples_lawful Relay = relay_lawful
samples_lawful Single = single_lawful
samples_lawful Doubled = doubled_lawful
