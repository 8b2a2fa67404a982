-- Bit tests (Intel 80386 manual, section 3.4.2, chapter 17, appendix C).
use Rattle.std.specs.Prelude.{ℕ, ◌+◌, ◌-◌, ◌%◌, ◌^◌, if◌then◌else◌}
use Rattle.cpu_state.specs.Eflags.{bit}
use Rattle.cpu_state.specs.declared.eflags.Eflags.{Eflags}
use Rattle.cpu_state.specs.declared.op.Op.{Op}
use Rattle.cpu_state.specs.declared.op.Op.TheVariants.{Bt, Bts, Btr, Btc}
use Rattle.cpu_state.specs.Width.{bits}
use Rattle.cpu_state.specs.declared.width.Width.{Width}
use Rattle.i386_alu.specs.Computed.{Computed, unchanged}

-- an operand with the bit at a place set, and with it clear
abbrev pub with_bit : ℕ → ℕ → ℕ
with_bit a i = if bit a i then a else a + 2 ^ i

abbrev pub without_bit : ℕ → ℕ → ℕ
without_bit a i = if bit a i then a - 2 ^ i else a

abbrev pub with_bit_turned : ℕ → ℕ → ℕ
with_bit_turned a i = if bit a i then a - 2 ^ i else a + 2 ^ i

-- CF is the old bit at the place; all other flags stay
abbrev pub tested : ℕ → ℕ → ℕ → Eflags → Computed
tested a i r f = record { value = r; flags = record f { carry = bit a i } }

-- row by row, by the place modulo the width; any other operation leaves all as it is
unfoldable pub bit_of : Op → Width → ℕ → ℕ → Eflags → Computed
bit_of Bt w a place f = tested a (place % bits w) a f
bit_of Bts w a place f = tested a (place % bits w) (with_bit a (place % bits w)) f
bit_of Btr w a place f = tested a (place % bits w) (without_bit a (place % bits w)) f
bit_of Btc w a place f = tested a (place % bits w) (with_bit_turned a (place % bits w)) f
bit_of op w a place f = unchanged a f
