use Rattle.std.proofs.Common.{◌*◌, ◌≤◌, length, take}
use Rattle.sheet.specs.Sheet.{box_lines, longest_line}
use Rattle.sheet.proofs.lines.Lines.put_boxes.Given as goal

abbrev pub invariant-loop-i : goal.invariant-loop-i
invariant-loop-i g l =
    record {
      taken : g.S.Sink.Takes l.initial.sink (box_lines 0 l.self.rates (take l.i l.self.boxes.now)) l.sink;
      within : length (box_lines 0 l.self.rates (take l.i l.self.boxes.now)) ≤ longest_line * l.i;
    }
