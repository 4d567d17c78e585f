use Rattle.std.proofs.Common.{refl}
use Rattle.worked.proofs.worked_examples.Goals as goal

pub returns : goal.returns
returns c = record {
  relay_is_safe = refl;
  safe_limit_low = refl;
  safe_first_low = refl;
  safe_second_low = refl;
  relay_is_unsafe = refl;
  unsafe_limit_high = refl;
  unsafe_rounds_few = refl;
  never_left = refl;
  jam_remade = refl;
  half_passes = refl;
  half_exceeded = refl;
  half_safe = refl;
  over_half_refused = refl;
}
