use Rattle.std.proofs.Common.{◌≡◌, ◌≤◌, ◌+◌, length}
use Rattle.std.specs.Str.Lines.{lines}
use Rattle.device_script.specs.Script.{script_of, events_from}
use Rattle.device_script.proofs.read.read_lines.Given as goal

abbrev pub invariant-loop-left : goal.invariant-loop-left
invariant-loop-left l = (l.number + length l.left ≤ 33554433) × (events_from l.draft l.number (lines l.left) ≡ script_of l.bytes)

abbrev pub decreases-loop-left : goal.decreases-loop-left
decreases-loop-left l = length l.left
