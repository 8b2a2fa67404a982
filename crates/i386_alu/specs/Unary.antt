-- Increment, decrement, complement and negation (Intel 80386 manual, sections 3.2.1, 3.2.2 and 3.4.1, chapter 17, appendix C).
use Rattle.std.specs.Prelude.{ℕ, ◌-◌}
use Rattle.cpu_state.specs.Width.{modulus}
use Rattle.cpu_state.specs.declared.eflags.Eflags.{Eflags}
use Rattle.cpu_state.specs.declared.op.Op.{Op}
use Rattle.cpu_state.specs.declared.op.Op.TheVariants.{Inc, Dec, Not, Neg}
use Rattle.cpu_state.specs.declared.width.Width.{Width}
use Rattle.i386_alu.specs.Binary.{sum_of, difference_of}
use Rattle.i386_alu.specs.Computed.{Computed, unchanged}

-- CF stays
abbrev pub keeping_carry : Eflags → Computed → Computed
keeping_carry f c = record { value = c.value; flags = record c.flags { carry = f.carry } }

-- row by row; any other operation leaves all as it is
unfoldable pub unary_of : Op → Width → ℕ → Eflags → Computed
unary_of Inc w a f = keeping_carry f (sum_of w a 1 0 f)
unary_of Dec w a f = keeping_carry f (difference_of w a 1 0 f)
unary_of Not w a f = record { value = modulus w - 1 - a; flags = f }
unary_of Neg w a f = difference_of w 0 a 0 f
unary_of op w a f = unchanged a f
