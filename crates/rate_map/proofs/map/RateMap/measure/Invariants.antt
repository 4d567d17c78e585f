use Rattle.std.proofs.Common.{◌≡◌, ◌*◌, ◌^◌, ◌≤◌, drop}
use Rattle.theory.specs.Maps.{volumes, no_volumes}
use Rattle.rate_map.proofs.map.RateMap.measure.Given as goal

abbrev pub invariant-loop-b : goal.invariant-loop-b
invariant-loop-b g l =
    (volumes l.rates (drop l.b-index l.b-items) l.total ≡ volumes l.rates l.b-items no_volumes)
    × ((l.total.safe ≤ 2 ^ 40 * l.b-index) × (l.total.exceeding ≤ 2 ^ 40 * l.b-index) × (l.total.pending ≤ 2 ^ 40 * l.b-index))
