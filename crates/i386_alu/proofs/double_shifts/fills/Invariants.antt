use Rattle.std.proofs.Common.{◌≡◌, ◌<◌}
use Rattle.cpu_state.specs.Width.{modulus}
use Rattle.i386_alu.specs.DoubleShift.{filled_of}
use Rattle.i386_alu.proofs.double_shifts.fills.Given as goal

-- so many single ones as there were steps
abbrev pub invariant-loop-place : goal.invariant-loop-place
invariant-loop-place l = record {
  done : record { value = l.value; source = l.source; out = l.out } ≡ filled_of l.fn.op l.fn.width l.fn.a l.fn.b l._place;
  value_fits : l.value < modulus l.fn.width;
  source_fits : l.source < modulus l.fn.width;
}
