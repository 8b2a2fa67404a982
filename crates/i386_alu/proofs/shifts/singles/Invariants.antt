use Rattle.std.proofs.Common.{◌≡◌, ◌<◌}
use Rattle.cpu_state.specs.Width.{modulus}
use Rattle.i386_alu.specs.Shift.{singles_of}
use Rattle.i386_alu.proofs.shifts.singles.Given as goal

-- so many single ones as there were steps
abbrev pub invariant-loop-place : goal.invariant-loop-place
invariant-loop-place l = record {
  done : record { value = l.value; carry = l.out } ≡ singles_of l.fn.op l.fn.width l._place (record { value = l.fn.a; carry = l.fn.carry });
  fits : l.value < modulus l.fn.width;
}
