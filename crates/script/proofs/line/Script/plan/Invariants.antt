use Rattle.std.proofs.Common.{◌≡◌, ◌++◌, map, vec_items}
use Rattle.rate_map.specs.Told.{command}
use Rattle.script.specs.Reading.{commands, closes}
use Rattle.script.specs.Values.{said_by, steps_left}
use Rattle.script.proofs.line.Script.plan.Given as goal

-- the calls so far, and those of the lines still to come, are the calls of the script
abbrev pub invariant-loop-step : goal.invariant-loop-step
invariant-loop-step l =
    let said = said_by l.states l.self in
    let left = steps_left l.step-iterator in
    (commands said ≡ map command (vec_items l.calls) ++ commands left) × (closes said ≡ closes left)
