-- Addition, subtraction, comparison and logic of two operands (Intel 80386 manual, sections 3.2.1 to 3.2.3, 3.4.1 and 3.4.6,
-- chapter 17, appendix C).
use Rattle.std.specs.Prelude.{ℕ, ◌+◌, ◌-◌, ◌%◌, nat_le, nat_lt, false, pos, ◌+ℤ◌, ◌-ℤ◌, bit_and, bit_or, bit_xor}
use Rattle.cpu_state.specs.Width.{modulus}
use Rattle.cpu_state.specs.declared.eflags.Eflags.{Eflags}
use Rattle.cpu_state.specs.declared.op.Op.{Op}
use Rattle.cpu_state.specs.declared.op.Op.TheVariants.{Add, Or, Adc, Sbb, And, Sub, Xor, Cmp, Test}
use Rattle.cpu_state.specs.declared.width.Width.{Width}
use Rattle.i386_alu.specs.Computed.{Computed, unchanged}
use Rattle.i386_alu.specs.Operand.{signed, leaves, carried, of_result}

-- the sum of two operands and a carry: CF says whether the exact sum is at least 2^w, OF whether the exact signed sum leaves
-- its range, AF whether the sum of the low four bits passes 15
abbrev pub sum_of : Width → ℕ → ℕ → ℕ → Eflags → Computed
sum_of w a b c f = record {
  value = (a + b + c) % modulus w;
  flags = record (of_result w ((a + b + c) % modulus w) f) {
    carry = nat_le (modulus w) (a + b + c);
    adjust = nat_lt 15 (a % 16 + b % 16 + c);
    overflow = leaves w (signed w a +ℤ signed w b +ℤ pos c);
  };
}

-- the difference of two operands and a borrow: CF says whether the exact difference is below 0, OF whether the exact signed
-- difference leaves its range, AF whether the difference of the low four bits is below 0
abbrev pub difference_of : Width → ℕ → ℕ → ℕ → Eflags → Computed
difference_of w a b c f = record {
  value = (a + modulus w - (b + c)) % modulus w;
  flags = record (of_result w ((a + modulus w - (b + c)) % modulus w) f) {
    carry = nat_lt a (b + c);
    adjust = nat_lt (a % 16) (b % 16 + c);
    overflow = leaves w (signed w a -ℤ signed w b -ℤ pos c);
  };
}

-- a result by bits: CF and OF are clear, AF stays
abbrev pub logical_of : Width → ℕ → Eflags → Computed
logical_of w r f = record { value = r; flags = record (of_result w r f) { carry = false; overflow = false } }

-- a comparison keeps its operand and takes the flags
abbrev pub keeping : ℕ → Computed → Computed
keeping a c = record { value = a; flags = c.flags }

-- row by row; any other operation leaves all as it is
unfoldable pub binary_of : Op → Width → ℕ → ℕ → Eflags → Computed
binary_of Add w a b f = sum_of w a b 0 f
binary_of Adc w a b f = sum_of w a b (carried f.carry) f
binary_of Sub w a b f = difference_of w a b 0 f
binary_of Sbb w a b f = difference_of w a b (carried f.carry) f
binary_of Cmp w a b f = keeping a (difference_of w a b 0 f)
binary_of And w a b f = logical_of w (bit_and a b) f
binary_of Or w a b f = logical_of w (bit_or a b) f
binary_of Xor w a b f = logical_of w (bit_xor a b) f
binary_of Test w a b f = keeping a (logical_of w (bit_and a b) f)
binary_of op w a b f = unchanged a f
