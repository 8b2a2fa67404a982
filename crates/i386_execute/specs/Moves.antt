-- Data movement (Intel 80386 manual, sections 3.1.1, 3.1.3, 3.4.5 and 3.11).
use Rattle.std.specs.Prelude.{ℕ, ◌+◌, ◌-◌, ◌%◌, ◌^◌, ◌==◌, List, [], ◌∷◌, slice_index, if◌then◌else◌}
use Rattle.cpu_state.specs.Registers.{ebx}
use Rattle.cpu_state.specs.Width.{modulus, top}
use Rattle.cpu_state.specs.declared.registers.Registers.{Registers}
use Rattle.cpu_state.specs.declared.width.Width.{Width}
use Rattle.cpu_state.specs.declared.width.Width.TheVariants.{W8, W16, W32}
use Rattle.i386_alu.specs.Condition.{condition_of}
use Rattle.i386_alu.specs.Operand.{carried}
use Rattle.i386_decode.specs.declared.form.Form.{Form}
use Rattle.i386_decode.specs.declared.form.Operand.{Operand}
use Rattle.i386_decode.specs.declared.form.Operand.TheVariants.{Memory, Immediate}
use Rattle.i386_effects.specs.Operands.{part, with_part, effective_address, value_of, touches_of, with_operand, writes_to}
use Rattle.i386_effects.specs.Change.{Change, Done}
use Rattle.i386_effects.specs.declared.accesses.Touch.{Touch}
use Rattle.i386_execute.specs.Results.{first, second, assigned, with_general}

-- MOV
unfoldable pub copied : Form → Registers → List ℕ → Change
copied f r ws = assigned f r (second f r ws)

-- XCHG: the second operand is a register
unfoldable pub exchanged : Form → Registers → List ℕ → Change
exchanged f r ws =
    Done (record r { general = with_operand f.width f.second (first f r ws) (with_operand f.width f.first (second f r ws) r.general) })
    (writes_to f.width f.first (second f r ws) r.general)

-- an operand with its sign, as a doubleword
abbrev pub extended : Width → ℕ → ℕ
extended w a = if top w a then a + (2 ^ 32 - modulus w) else a

-- the width that a number of bits names
abbrev pub width_named : Operand → Width
width_named (Immediate n) = if n == 8 then W8 else W16
width_named _ = W16

-- MOVZX and MOVSX: the third operand names the width of the second
unfoldable pub extended_touches : Form → Registers → List Touch
extended_touches f r = touches_of (width_named f.third) f.second r.general

abbrev pub narrow : Form → Registers → List ℕ → ℕ
narrow f r ws = value_of (width_named f.third) f.second r.general (slice_index ws 0)

unfoldable pub zero_extended : Form → Registers → List ℕ → Change
zero_extended f r ws = assigned f r (narrow f r ws)

unfoldable pub sign_extended : Form → Registers → List ℕ → Change
sign_extended f r ws = assigned f r (extended (width_named f.third) (narrow f r ws))

-- half of a width
abbrev pub half : Width → Width
half W8 = W8
half W16 = W8
half W32 = W16

-- CBW and CWDE: AL to AX, AX to EAX
unfoldable pub widened : Form → Registers → Change
widened f r = with_general r (with_part f.width 0 (extended (half f.width) (part (half f.width) 0 r.general)) r.general)

-- CWD and CDQ: the sign of AX in each bit of DX, that of EAX in each of EDX
unfoldable pub sign_spread : Form → Registers → Change
sign_spread f r = with_general r (with_part f.width 2 (if top f.width (part f.width 0 r.general) then 2 ^ 32 - 1 else 0) r.general)

-- the address that an operand names
abbrev pub place_of : Operand → List ℕ → ℕ
place_of (Memory a) g = effective_address a g
place_of _ g = 0

-- LEA; at width 16 the low half
unfoldable pub addressed : Form → Registers → Change
addressed f r = assigned f r (place_of f.second r.general)

-- XLAT: AL from the table at EBX, by AL
unfoldable pub table_touches : Registers → List Touch
table_touches r = record { at = (ebx r + part W8 0 r.general) % 2 ^ 32; width = W8 } ∷ []

unfoldable pub translated : Registers → List ℕ → Change
translated r ws = with_general r (with_part W8 0 (slice_index ws 0) r.general)

-- SETcc: the second operand is the condition
unfoldable pub set_where : Form → Registers → Change
set_where f r = assigned f r (carried (condition_of (value_of W8 f.second r.general 0 % 16) r.eflags))
