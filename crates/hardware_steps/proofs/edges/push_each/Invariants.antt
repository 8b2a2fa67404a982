use Rattle.std.proofs.Common.{◌≡◌, ◌+◌, ◌-◌, ◌≤◌, length}
use Rattle.std.specs.List.{range_with_len}
use Rattle.hardware_lines.specs.Hardware.{rising_order}
use Rattle.hardware_steps.specs.Steps.{edged}
use Rattle.hardware_steps.proofs.edges.push_each.Given as goal

abbrev pub invariant-loop-line : goal.invariant-loop-line
invariant-loop-line l = record {
  room : length l.lines.h + (16 - l.line) ≤ 128;
  rest : edged l.set (range_with_len l.line (16 - l.line)) l.lines ≡ edged l.set rising_order l.fn.lines;
}
