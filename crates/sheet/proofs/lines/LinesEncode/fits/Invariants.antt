use Rattle.std.proofs.Common.{◌≡◌, ◌+◌, ◌*◌, ◌≤◌, length, drop}
use Rattle.sheet.specs.Sheet.{box_lines, longest_line}
use Rattle.sheet.proofs.lines.LinesEncode.fits.Given as goal

-- what is left, with the lines before taken off, and the lines behind
abbrev pub invariant-loop-i : goal.invariant-loop-i
invariant-loop-i l =
    record {
      few : length l.buffer ≤ l.left + longest_line * l.i;
      taken : length l.buffer + length (box_lines l.i l.self.rates (drop l.i l.self.boxes.now)) ≡ l.left + length (box_lines 0 l.self.rates l.self.boxes.now);
    }
