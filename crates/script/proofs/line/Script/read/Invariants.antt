use Rattle.std.proofs.Common.{length, vec_items}
use Rattle.script.specs.Reading.{lines_of}
use Rattle.script.proofs.Lines.{Read}
use Rattle.script.proofs.line.Script.read.Given as goal

abbrev pub invariant-loop-line : goal.invariant-loop-line
invariant-loop-line l = Read (lines_of l.bytes) (vec_items l.lines) (vec_items l.numbers) (length l.yielded)
