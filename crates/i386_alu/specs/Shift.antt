-- Shifts and rotations as so many single ones (Intel 80386 manual, sections 3.4.4.1 and 3.4.4.3, chapter 17, appendix C).
use Rattle.std.specs.Prelude.{ℕ, zero, suc, ◌+◌, ◌*◌, ◌/◌, ◌%◌, ◌==◌, nat_le, Bool, false, if◌then◌else◌}
use Rattle.cpu_state.specs.Width.{modulus, top}
use Rattle.cpu_state.specs.declared.eflags.Eflags.{Eflags}
use Rattle.cpu_state.specs.declared.op.Op.{Op}
use Rattle.cpu_state.specs.declared.op.Op.TheVariants.{Rol, Ror, Rcl, Rcr, Shl, Shr, Sar}
use Rattle.cpu_state.specs.declared.width.Width.{Width}
use Rattle.i386_alu.specs.Computed.{Computed, unchanged}
use Rattle.i386_alu.specs.Operand.{carried, differ, of_result}

-- an operand with the carry flag beside it
pub record Moved : Type 0 where
  pub value : ℕ
  pub carry : Bool

-- the lowest bit, and the one below the top
abbrev pub lowest : ℕ → Bool
lowest a = a % 2 == 1

abbrev pub below_top : Width → ℕ → Bool
below_top w a = nat_le (modulus w / 4) (a % (modulus w / 2))

-- an operand one place to the left, or to the right, with the bit that enters at the other end
abbrev pub leftward : Width → ℕ → Bool → ℕ
leftward w a enters = a * 2 % modulus w + carried enters

abbrev pub rightward : Width → ℕ → Bool → ℕ
rightward w a enters = a / 2 + (if enters then modulus w / 2 else 0)

-- one single shift or rotation: the carry becomes the bit that left the operand
unfoldable pub single_of : Op → Width → Moved → Moved
single_of Rol w s = record { value = leftward w s.value (top w s.value); carry = top w s.value }
single_of Ror w s = record { value = rightward w s.value (lowest s.value); carry = lowest s.value }
single_of Rcl w s = record { value = leftward w s.value s.carry; carry = top w s.value }
single_of Rcr w s = record { value = rightward w s.value s.carry; carry = lowest s.value }
single_of Shl w s = record { value = leftward w s.value false; carry = top w s.value }
single_of Shr w s = record { value = rightward w s.value false; carry = lowest s.value }
single_of Sar w s = record { value = rightward w s.value (top w s.value); carry = lowest s.value }
single_of op w s = s

-- so many of them
abbrev pub singles_of : Op → Width → ℕ → Moved → Moved
singles_of op w zero s = s
singles_of op w (suc n) s = single_of op w (singles_of op w n s)

-- OF after a single one that made s of the operand a
unfoldable pub overflow_of : Op → Width → ℕ → Moved → Bool
overflow_of Rol w a s = differ (top w s.value) s.carry
overflow_of Rcl w a s = differ (top w s.value) s.carry
overflow_of Ror w a s = differ (top w s.value) (below_top w s.value)
overflow_of Rcr w a s = differ (top w s.value) (below_top w s.value)
overflow_of Shl w a s = differ (top w s.value) s.carry
overflow_of Shr w a s = top w a
overflow_of op w a s = false

-- what n single ones make of an operand and the carry flag
abbrev pub moved_of : Op → Width → ℕ → ℕ → Eflags → Moved
moved_of op w a n f = singles_of op w n (record { value = a; carry = f.carry })

-- CF, and for one place OF
abbrev pub moved_flags : Op → Width → ℕ → ℕ → Eflags → Eflags
moved_flags op w a n f = record f {
  carry = (moved_of op w a n f).carry;
  overflow = if n == 1 then overflow_of op w a (moved_of op w a n f) else f.overflow;
}

-- a rotation by n places: by none, nothing changes
abbrev pub rotation_of : Op → Width → ℕ → ℕ → Eflags → Computed
rotation_of op w a n f =
    if n == 0 then unchanged a f
    else record { value = (moved_of op w a n f).value; flags = moved_flags op w a n f }

-- a shift by n places, which sets PF, ZF and SF too: by none, nothing changes
abbrev pub shifting_of : Op → Width → ℕ → ℕ → Eflags → Computed
shifting_of op w a n f =
    if n == 0 then unchanged a f
    else record {
      value = (moved_of op w a n f).value;
      flags = of_result w (moved_of op w a n f).value (moved_flags op w a n f);
    }

-- row by row, by the count modulo 32; any other operation leaves all as it is
unfoldable pub shift_of : Op → Width → ℕ → ℕ → Eflags → Computed
shift_of Rol w a count f = rotation_of Rol w a (count % 32) f
shift_of Ror w a count f = rotation_of Ror w a (count % 32) f
shift_of Rcl w a count f = rotation_of Rcl w a (count % 32) f
shift_of Rcr w a count f = rotation_of Rcr w a (count % 32) f
shift_of Shl w a count f = shifting_of Shl w a (count % 32) f
shift_of Shr w a count f = shifting_of Shr w a (count % 32) f
shift_of Sar w a count f = shifting_of Sar w a (count % 32) f
shift_of op w a count f = unchanged a f
