use Rattle.std.proofs.Common.{◌≡◌, ◌+◌, ◌-◌, ◌≤◌, ◌++◌, map, drop, length}
use Rattle.line_kinds.specs.declared.kinds.HLine.TheVariants.{Ack}
use Rattle.hardware_steps.proofs.drain.push_acks.Given as goal

abbrev pub invariant-loop-line : goal.invariant-loop-line
invariant-loop-line l = record {
  room : length l.lines.h + (length l.taken - l.line-index) ≤ 128;
  rest : record l.lines { h = l.lines.h ++ map Ack (drop l.line-index l.taken) } ≡ record l.fn.lines { h = l.fn.lines.h ++ map Ack l.taken };
}
