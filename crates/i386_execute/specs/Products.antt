-- Multiplication and division (Intel 80386 manual, sections 3.2.4 and 3.2.5, and MUL, IMUL, DIV and IDIV in chapter 17).
use Rattle.std.specs.Prelude.{ℕ, Bool, true, List, [], Option, Some, None}
use Rattle.cpu_state.specs.declared.registers.Registers.{Registers}
use Rattle.cpu_state.specs.declared.width.Width.{Width}
use Rattle.cpu_state.specs.declared.width.Width.TheVariants.{W8, W16, W32}
use Rattle.i386_alu.specs.Product.{Product, multiply_of}
use Rattle.i386_alu.specs.Quotient.{divide_of}
use Rattle.i386_decode.specs.declared.form.Form.{Form}
use Rattle.i386_decode.specs.declared.form.Operand.{Operand}
use Rattle.i386_decode.specs.declared.form.Operand.TheVariants.{Absent}
use Rattle.i386_effects.specs.Operands.{part, with_part, value_of}
use Rattle.i386_effects.specs.Change.{Change, Done, Trap}
use Rattle.i386_execute.specs.Results.{first, second, computed, with_general}

-- the register of the high half: AH, which is register 4 of the byte registers, DX or EDX. The low half is in AL, AX or EAX
abbrev pub high_half : Width → ℕ
high_half W8 = 4
high_half W16 = 2
high_half W32 = 2

abbrev pub with_halves : Width → ℕ → ℕ → List ℕ → List ℕ
with_halves w low high g = with_part w (high_half w) high (with_part w 0 low g)

-- a product of twice the width
abbrev pub doubled : Form → Registers → Product → Change
doubled f r p = Done (record r { general = with_halves f.width p.low p.high r.general; eflags = p.flags }) []

-- AL, AX or EAX by a factor
abbrev pub multiplied_with : Bool → Form → Registers → ℕ → Change
multiplied_with signed f r a = doubled f r (multiply_of signed f.width (part f.width 0 r.general) a r.eflags)

-- MUL, and IMUL of one operand: AL, AX or EAX by the operand
unfoldable pub multiplied : Bool → Form → Registers → List ℕ → Change
multiplied signed f r ws = multiplied_with signed f r (first f r ws)

-- the low half of a signed product goes into the first operand
abbrev pub times : Form → Registers → Product → Change
times f r p = computed f r (record { value = p.low; flags = p.flags })

-- IMUL of one, two or three operands, of which the first two have these values
abbrev pub multiplied_by : Operand → Operand → Form → Registers → ℕ → ℕ → Change
multiplied_by Absent d f r a b = multiplied_with true f r a
multiplied_by c Absent f r a b = times f r (multiply_of true f.width a b r.eflags)
multiplied_by c d f r a b = times f r (multiply_of true f.width b (value_of f.width d r.general 0) r.eflags)

unfoldable pub signed_multiplied : Form → Registers → List ℕ → Change
signed_multiplied f r ws = multiplied_by f.second f.third f r (first f r ws) (second f r ws)

-- a quotient goes into AL, AX or EAX and its remainder into AH, DX or EDX; the divide error is exception 0
abbrev pub divided_into : Option (ℕ × ℕ) → Form → Registers → Change
divided_into None f r = Trap 0
divided_into (Some p) f r = with_general r (with_halves f.width p.0 p.1 r.general)

-- DIV and IDIV: AX, DX:AX or EDX:EAX by the operand
unfoldable pub divided : Bool → Form → Registers → List ℕ → Change
divided signed f r ws =
    divided_into (divide_of signed f.width (part f.width (high_half f.width) r.general) (part f.width 0 r.general) (first f r ws)) f r
