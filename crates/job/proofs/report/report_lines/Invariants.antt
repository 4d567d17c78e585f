use Rattle.std.proofs.Common.{◌≡◌, ◌++◌, vec_items}
use Rattle.std.specs.Slice.Iter.{iter_rest}
use Rattle.script.specs.Values.{said_by, steps_left}
use Rattle.job.specs.Output.{texts}
use Rattle.job.proofs.report.report_lines.Given as goal

-- the lines so far, and those still to come, are the lines of the script
abbrev pub invariant-loop-step : goal.invariant-loop-step
invariant-loop-step l =
    vec_items l.fn.out ++ texts l.rates (said_by l.states l.script) l.fn.answers ≡ vec_items l.out ++ texts l.rates (steps_left l.step-iterator) (iter_rest l.answers)
