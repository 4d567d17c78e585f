use Rattle.std.proofs.Common.{◌≡◌, map, take, vec_items}
use Rattle.theory.specs.Maps.{new_map}
use Rattle.theory.specs.Runs.{run_from, answers_from}
use Rattle.rate_map.specs.Values.{map_value}
use Rattle.rate_map.specs.Told.{command}
use Rattle.rate_map.proofs.run.run.Given as goal

abbrev pub invariant-loop-call : goal.invariant-loop-call
invariant-loop-call g l =
    (l.map.chain ≡ l.initial.map.chain)
    × (map_value l.map ≡ run_from (g.C.Chain.meaning l.initial.map.chain) (new_map (g.C.Chain.meaning l.initial.map.chain)) (map command (take l.call-index l.calls)))
    × (vec_items l.answers ≡ answers_from (g.C.Chain.meaning l.initial.map.chain) (new_map (g.C.Chain.meaning l.initial.map.chain)) (map command (take l.call-index l.calls)))
