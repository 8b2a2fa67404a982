-- Addition, subtraction, comparison, logic and shifts: the results go into the first operand (Intel 80386 manual, sections 3.2
-- and 3.4).
use Rattle.std.specs.Prelude.{ℕ, List}
use Rattle.cpu_state.specs.declared.registers.Registers.{Registers}
use Rattle.cpu_state.specs.declared.width.Width.TheVariants.{W8}
use Rattle.i386_alu.specs.Binary.{binary_of}
use Rattle.i386_alu.specs.DoubleShift.{double_shift_of}
use Rattle.i386_alu.specs.Shift.{shift_of}
use Rattle.i386_alu.specs.Unary.{unary_of}
use Rattle.i386_decode.specs.declared.form.Form.{Form}
use Rattle.i386_effects.specs.Operands.{value_of}
use Rattle.i386_effects.specs.Change.{Change}
use Rattle.i386_execute.specs.Results.{first, second, computed, flagged}

-- ADD, OR, ADC, SBB, AND, SUB, XOR
unfoldable pub combined : Form → Registers → List ℕ → Change
combined f r ws = computed f r (binary_of f.op f.width (first f r ws) (second f r ws) r.eflags)

-- CMP and TEST keep the flags alone
unfoldable pub compared : Form → Registers → List ℕ → Change
compared f r ws = flagged r (binary_of f.op f.width (first f r ws) (second f r ws) r.eflags).flags

-- INC, DEC, NOT, NEG
unfoldable pub altered : Form → Registers → List ℕ → Change
altered f r ws = computed f r (unary_of f.op f.width (first f r ws) r.eflags)

-- ROL, ROR, RCL, RCR, SHL, SHR, SAR by the second operand
unfoldable pub shifted : Form → Registers → List ℕ → Change
shifted f r ws = computed f r (shift_of f.op f.width (first f r ws) (value_of W8 f.second r.general 0) r.eflags)

-- SHLD and SHRD by the third operand
unfoldable pub double_shifted : Form → Registers → List ℕ → Change
double_shifted f r ws =
    computed f r (double_shift_of f.op f.width (first f r ws) (second f r ws) (value_of W8 f.third r.general 0) r.eflags)
