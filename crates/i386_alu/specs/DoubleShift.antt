-- Double shifts as so many single ones (Intel 80386 manual, section 3.4.4.2, chapter 17, appendix C).
use Rattle.std.specs.Prelude.{ℕ, zero, suc, ◌%◌, ◌==◌, nat_lt, Bool, false, ◌||◌, if◌then◌else◌}
use Rattle.cpu_state.specs.declared.eflags.Eflags.{Eflags}
use Rattle.cpu_state.specs.declared.op.Op.{Op}
use Rattle.cpu_state.specs.declared.op.Op.TheVariants.{Shld, Shrd}
use Rattle.cpu_state.specs.Width.{bits, top}
use Rattle.cpu_state.specs.declared.width.Width.{Width}
use Rattle.i386_alu.specs.Computed.{Computed, unchanged}
use Rattle.i386_alu.specs.Operand.{of_result}
use Rattle.i386_alu.specs.Shift.{lowest, leftward, rightward}

-- an operand, what is left of the other one that fills it, and the last bit out
pub record Filled : Type 0 where
  pub value : ℕ
  pub source : ℕ
  pub out : Bool

-- one single double shift: the bit that leaves the source enters the operand
unfoldable pub fill_of : Op → Width → Filled → Filled
fill_of Shld w s = record {
  value = leftward w s.value (top w s.source);
  source = leftward w s.source false;
  out = top w s.value;
}
fill_of Shrd w s = record {
  value = rightward w s.value (lowest s.source);
  source = rightward w s.source false;
  out = lowest s.value;
}
fill_of op w s = s

-- so many of them
abbrev pub fills_of : Op → Width → ℕ → Filled → Filled
fills_of op w zero s = s
fills_of op w (suc n) s = fill_of op w (fills_of op w n s)

-- what n single ones make of two operands
abbrev pub filled_of : Op → Width → ℕ → ℕ → ℕ → Filled
filled_of op w a b n = fills_of op w n (record { value = a; source = b; out = false })

-- by n places: by none, or by more than the operand has, nothing changes at all
abbrev pub filling_of : Op → Width → ℕ → ℕ → ℕ → Eflags → Computed
filling_of op w a b n f =
    if n == 0 || nat_lt (bits w) n then unchanged a f
    else record {
      value = (filled_of op w a b n).value;
      flags = record (of_result w (filled_of op w a b n).value f) { carry = (filled_of op w a b n).out };
    }

-- row by row, by the count modulo 32; any other operation leaves all as it is
unfoldable pub double_shift_of : Op → Width → ℕ → ℕ → ℕ → Eflags → Computed
double_shift_of Shld w a b count f = filling_of Shld w a b (count % 32) f
double_shift_of Shrd w a b count f = filling_of Shrd w a b (count % 32) f
double_shift_of op w a b count f = unchanged a f
