use Rattle.std.proofs.Common.{◌*◌, ◌≤◌, length}
use Rattle.sheet.specs.Sheet.{sides}
use Rattle.sheet.proofs.line.put_sides.Given as goal

abbrev pub invariant-loop-low : goal.invariant-loop-low
invariant-loop-low g l =
    record {
      taken : g.S.Sink.Takes l.initial.sink (sides l.«record» (length l.yielded)) l.sink;
      within : length (sides l.«record» (length l.yielded)) ≤ 42 * length l.yielded;
    }
