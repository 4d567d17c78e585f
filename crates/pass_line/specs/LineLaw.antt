-- Every pass line keeps the rules and limits of a chain.
use Rattle.std.specs.Prelude.{ℕ, zero, suc, ◌+◌, ◌*◌, ◌/◌, ◌<◌, ◌≤◌, pos, negsuc, ◌==◌, nat_lt, refl}
use Rattle.std.proofs.Common.{add-mul, arith}
use Rattle.std.specs.Int.Signed.{le_z_yes}
use Rattle.std.proofs.lemmas.Nat.{mul-le, div_below, div-add-mod'}
use Rattle.std.proofs.lemmas.Bool.{cond_both, ltb-true}
use Rattle.chain.specs.Chains.{Lawful, LawfulRow, Limited, looping}
use Rattle.pass_line.specs.Line.{Fit, tries, late, try_of, next_pass, repeatable, final, try_row, line_row, line}

-- ---- where a try leads
onward_within : (B R s : ℕ) → s < tries B R → next_pass R s ≤ tries B R
onward_within B R s h =
    let pass : s / (R + 1) < B = div_below s (R + 1) B (omega arith) h in
    mul-le (s / (R + 1) + 1) (R + 1) B (R + 1) (omega arith) (omega arith)

again_before : (R s : ℕ) → try_of R s < R → s + 1 < next_pass R s
again_before R s h = omega (arith, div-add-mod' s (R + 1), add-mul (s / (R + 1)) 1 (R + 1))

-- ---- coefficients
none : Limited (pos 0)
none = (le_z_yes tt, le_z_yes tt)

plus : Limited (pos 1)
plus = (le_z_yes tt, le_z_yes tt)

minus : Limited (negsuc 0)
minus = (le_z_yes tt, le_z_yes tt)

-- what holds of the first four numbers holds of each number below four
below_four : (P : ℕ → Type 0) → P 0 → P 1 → P 2 → P 3 → (i : ℕ) → i < 4 → P i
below_four P a b c d zero h = a
below_four P a b c d (suc zero) h = b
below_four P a b c d (suc (suc zero)) h = c
below_four P a b c d (suc (suc (suc zero))) h = d
below_four P a b c d (suc (suc (suc (suc i)))) h = absurd (omega arith)

below_two : (P : ℕ → Type 0) → P 0 → P 1 → (i : ℕ) → i < 2 → P i
below_two P a b zero h = a
below_two P a b (suc zero) h = b
below_two P a b (suc (suc i)) h = absurd (omega arith)

below_one : (P : ℕ → Type 0) → P 0 → (i : ℕ) → i < 1 → P i
below_one P a zero h = a
below_one P a (suc i) h = absurd (omega arith)

-- ---- rows
repeatable_lawful : (states again onward end : ℕ) → again < onward → onward < end → end < states → LawfulRow states 2 1 (repeatable again onward end)
repeatable_lawful states again onward end h k l = record {
  rates_few = omega arith;
  rates_rise = (omega arith, omega arith, (omega arith, omega arith, tt));
  edges_some = omega arith;
  edges_few = omega arith;
  edges_rise = (omega arith, omega arith, (omega arith, omega arith, (omega arith, omega arith, tt)));
  edges_lawful = (
    record { many = refl; limits = (none, (plus, (none, (minus, tt)))) },
    (
      record { many = refl; limits = (plus, (minus, (none, (none, tt)))) },
      (record { many = refl; limits = (none, (none, (none, (plus, tt)))) }, tt),
    ),
  );
  sums = below_four _ refl refl refl refl;
}

final_lawful : (states onward end : ℕ) → onward < end → end < states → LawfulRow states 2 1 (final onward end)
final_lawful states onward end h k = record {
  rates_few = omega arith;
  rates_rise = (omega arith, omega arith, tt);
  edges_some = omega arith;
  edges_few = omega arith;
  edges_rise = (omega arith, omega arith, (omega arith, omega arith, tt));
  edges_lawful = (
    record { many = refl; limits = (plus, (minus, tt)) },
    (record { many = refl; limits = (none, (plus, tt)) }, tt),
  );
  sums = below_two _ refl refl;
}

looping_lawful : (states s : ℕ) → s < states → LawfulRow states 2 1 (looping 1 s)
looping_lawful states s h = record {
  rates_few = omega arith;
  rates_rise = tt;
  edges_some = omega arith;
  edges_few = omega arith;
  edges_rise = (omega arith, omega arith, tt);
  edges_lawful = (record { many = refl; limits = (plus, tt) }, tt);
  sums = below_one _ refl;
}

try_lawful : (B R s : ℕ) → s < tries B R → LawfulRow (tries B R + 2) 2 1 (try_row B R s)
try_lawful B R s h =
    let k : next_pass R s ≤ tries B R = onward_within B R s h in
    cond_both (nat_lt (try_of R s) R) _ _ (LawfulRow (tries B R + 2) 2 1)
    (λ e. repeatable_lawful _ _ _ _ (again_before R s (ltb-true (try_of R s) R e)) (omega arith) (omega arith))
    (λ _. final_lawful _ _ _ (omega arith) (omega arith))

row_lawful : (B R s : ℕ) → s < tries B R + 2 → LawfulRow (tries B R + 2) 2 1 (line_row B R s)
row_lawful B R s h =
    cond_both (nat_lt s (tries B R)) _ _ (LawfulRow (tries B R + 2) 2 1)
    (λ e. try_lawful B R s (ltb-true s (tries B R) e))
    (λ _. looping_lawful _ s h)

pub line_lawful : (B R : ℕ) → Fit B R → Lawful (line B R)
line_lawful B R fit =
    let size : B * (R + 1) ≤ 64 * 32 = mul-le B (R + 1) 64 32 fit.1 (omega arith) in
    record {
      states_some = omega arith;
      states_few = omega arith;
      rates_some = omega arith;
      rates_few = omega arith;
      unit_some = omega arith;
      unit_few = omega arith;
      starts = omega arith;
      marks = λ s _. cond_both (s == late B R) 1 0 (λ m. m ≤ 1) (λ _. omega arith) (λ _. omega arith);
      rows = row_lawful B R;
    }
