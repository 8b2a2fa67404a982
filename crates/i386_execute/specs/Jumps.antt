-- Conditional jumps and loops (Intel 80386 manual, section 3.5.2).
use Rattle.std.specs.Prelude.{ℕ, ◌+◌, ◌-◌, ◌%◌, ◌^◌, ◌==◌, Bool, true, not, ◌&&◌, List, [], slice_set, if◌then◌else◌}
use Rattle.cpu_state.specs.Registers.{ecx}
use Rattle.cpu_state.specs.declared.op.Op.{Op}
use Rattle.cpu_state.specs.declared.op.Op.TheVariants.{Loope, Loopne}
use Rattle.cpu_state.specs.declared.registers.Registers.{Registers}
use Rattle.cpu_state.specs.declared.width.Width.TheVariants.{W8, W32}
use Rattle.i386_alu.specs.Condition.{condition_of}
use Rattle.i386_decode.specs.declared.form.Form.{Form}
use Rattle.i386_effects.specs.Operands.{value_of}
use Rattle.i386_effects.specs.Change.{Change, Done}

-- a jump where a test holds, by a displacement from behind the instruction, with other general registers
abbrev pub jumped_where : Bool → Form → Registers → List ℕ → Change
jumped_where b f r g =
    Done (record r { general = g; eip = if b then (r.eip + value_of W32 f.first r.general 0) % 2 ^ 32 else r.eip }) []

-- Jcc: the second operand is the condition
unfoldable pub branched : Form → Registers → Change
branched f r = jumped_where (condition_of (value_of W8 f.second r.general 0 % 16) r.eflags) f r r.general

-- ECX less one
abbrev pub counted : Registers → ℕ
counted r = (ecx r + (2 ^ 32 - 1)) % 2 ^ 32

-- whether ZF lets a loop go on: with LOOP always, with LOOPE where it is set, with LOOPNE where it is clear
abbrev pub goes_on : Op → Bool → Bool
goes_on Loope zero = zero
goes_on Loopne zero = not zero
goes_on op zero = true

-- LOOP, LOOPE and LOOPNE: ECX falls by one and isn't 0
unfoldable pub looped : Form → Registers → Change
looped f r = jumped_where (not (counted r == 0) && goes_on f.op r.eflags.zero) f r (slice_set r.general 1 (counted r))

-- JECXZ
unfoldable pub jumped_at_zero : Form → Registers → Change
jumped_at_zero f r = jumped_where (ecx r == 0) f r r.general
