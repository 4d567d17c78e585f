use Rattle.std.proofs.Common.{◌≡◌, ◌≤◌, ◌^◌, length}
use Rattle.theory.specs.Maps.{volume}
use Rattle.rate_map.proofs.map.ask.volume.Given as goal

abbrev pub invariant-loop-low : goal.invariant-loop-low
invariant-loop-low l = (l.product ≡ volume (length l.yielded) l.b) × (l.product ≤ 1000 ^ length l.yielded)
