-- Well-formed forms: which width, operands and repeat each operation can have.
use Rattle.std.specs.Prelude.{◌≡◌, ◌≢◌, ℕ, ◌+◌, ◌<◌, ◌≤◌, ◌⊎◌, Bool, true, false, IfSome}
use Rattle.cpu_state.specs.declared.op.Op.{Op}
use Rattle.cpu_state.specs.declared.op.Op.TheVariants as op
use Rattle.cpu_state.specs.declared.width.Width.{Width}
use Rattle.cpu_state.specs.declared.width.Width.TheVariants.{W8, W32}
use Rattle.i386_decode.specs.declared.form.Repeat.TheVariants.{Once}
use Rattle.i386_decode.specs.declared.form.Operand.{Operand}
use Rattle.i386_decode.specs.declared.form.Operand.TheVariants.{Absent, Register, Memory, Immediate}
use Rattle.i386_decode.specs.declared.form.Form.{Form}
use Rattle.i386_decode.specs.declared.form.Decoded.{Decoded}
use Rattle.i386_decode.specs.declared.form.Decoded.TheVariants as decoded

-- ---- kinds of operands

pub data Kind : Type 0 where
  NoOperand : Kind
  AnyRegister : Kind
  RegisterZero : Kind
  RegisterOrMemory : Kind
  MemoryAlone : Kind
  AnyNumber : Kind
  NumberBelow : (bound : ℕ) → Kind
  RegisterOrNumber : Kind
  AnyOperand : Kind
  BitNumber : Kind
  ShiftCount : Kind
  PortNumber : Kind
  SourceWidth : Kind
  RegisterMemoryOrNone : Kind
  NumberOrNone : Kind

-- which operands are of a kind
abbrev pub Fits : Kind → Operand → Type 0
Fits NoOperand Absent = Unit {0}
Fits NoOperand o = ⊥
Fits AnyRegister (Register r) = Unit {0}
Fits AnyRegister o = ⊥
-- AL, AX or EAX
Fits RegisterZero (Register r) = r ≡ 0
Fits RegisterZero o = ⊥
Fits RegisterOrMemory (Register r) = Unit {0}
Fits RegisterOrMemory (Memory a) = Unit {0}
Fits RegisterOrMemory o = ⊥
Fits MemoryAlone (Memory a) = Unit {0}
Fits MemoryAlone o = ⊥
Fits AnyNumber (Immediate n) = Unit {0}
Fits AnyNumber o = ⊥
Fits (NumberBelow bound) (Immediate n) = n < bound
Fits (NumberBelow bound) o = ⊥
Fits RegisterOrNumber (Register r) = Unit {0}
Fits RegisterOrNumber (Immediate n) = Unit {0}
Fits RegisterOrNumber o = ⊥
Fits AnyOperand (Register r) = Unit {0}
Fits AnyOperand (Memory a) = Unit {0}
Fits AnyOperand (Immediate n) = Unit {0}
Fits AnyOperand Absent = ⊥
Fits BitNumber (Register r) = Unit {0}
Fits BitNumber (Immediate n) = n < 256
Fits BitNumber o = ⊥
-- CL is register 1
Fits ShiftCount (Register r) = r ≡ 1
Fits ShiftCount (Immediate n) = n < 256
Fits ShiftCount o = ⊥
-- DX is register 2
Fits PortNumber (Register r) = r ≡ 2
Fits PortNumber (Immediate n) = n < 256
Fits PortNumber o = ⊥
Fits SourceWidth (Immediate n) = (n ≡ 8) ⊎ (n ≡ 16)
Fits SourceWidth o = ⊥
Fits RegisterMemoryOrNone (Register r) = Unit {0}
Fits RegisterMemoryOrNone (Memory a) = Unit {0}
Fits RegisterMemoryOrNone Absent = Unit {0}
Fits RegisterMemoryOrNone (Immediate n) = ⊥
Fits NumberOrNone (Immediate n) = Unit {0}
Fits NumberOrNone Absent = Unit {0}
Fits NumberOrNone o = ⊥

pub data Widths : Type 0 where
  AnyWidth : Widths
  ByteAlone : Widths
  WordOrDoubleword : Widths
  DoublewordAlone : Widths

-- which widths are among these
abbrev pub HasWidth : Widths → Width → Type 0
HasWidth AnyWidth w = Unit {0}
HasWidth ByteAlone w = w ≡ W8
HasWidth WordOrDoubleword w = w ≢ W8
HasWidth DoublewordAlone w = w ≡ W32

-- ---- what each operation can have

pub record Shape : Type 0 where
  pub widths : Widths
  pub first : Kind
  pub second : Kind
  pub third : Kind

abbrev pub shape : Widths → Kind → Kind → Kind → Shape
shape w a b c = record { widths = w; first = a; second = b; third = c }

abbrev pub plain : Widths → Shape
plain w = shape w NoOperand NoOperand NoOperand

abbrev pub shape_of : Op → Shape
-- data movement
shape_of op.Mov = shape AnyWidth RegisterOrMemory AnyOperand NoOperand
shape_of op.Movzx = shape WordOrDoubleword AnyRegister RegisterOrMemory SourceWidth
shape_of op.Movsx = shape WordOrDoubleword AnyRegister RegisterOrMemory SourceWidth
shape_of op.Xchg = shape AnyWidth RegisterOrMemory AnyRegister NoOperand
shape_of op.Lea = shape WordOrDoubleword AnyRegister MemoryAlone NoOperand
shape_of op.Xlat = plain WordOrDoubleword
shape_of op.Push = shape WordOrDoubleword AnyOperand NoOperand NoOperand
shape_of op.Pusha = plain DoublewordAlone
shape_of op.Pop = shape WordOrDoubleword RegisterOrMemory NoOperand NoOperand
shape_of op.Popa = plain DoublewordAlone
-- arithmetic and logic
shape_of op.Add = shape AnyWidth RegisterOrMemory AnyOperand NoOperand
shape_of op.Or = shape AnyWidth RegisterOrMemory AnyOperand NoOperand
shape_of op.Adc = shape AnyWidth RegisterOrMemory AnyOperand NoOperand
shape_of op.Sbb = shape AnyWidth RegisterOrMemory AnyOperand NoOperand
shape_of op.And = shape AnyWidth RegisterOrMemory AnyOperand NoOperand
shape_of op.Sub = shape AnyWidth RegisterOrMemory AnyOperand NoOperand
shape_of op.Xor = shape AnyWidth RegisterOrMemory AnyOperand NoOperand
shape_of op.Cmp = shape AnyWidth RegisterOrMemory AnyOperand NoOperand
shape_of op.Test = shape AnyWidth RegisterOrMemory RegisterOrNumber NoOperand
shape_of op.Inc = shape AnyWidth RegisterOrMemory NoOperand NoOperand
shape_of op.Dec = shape AnyWidth RegisterOrMemory NoOperand NoOperand
shape_of op.Not = shape AnyWidth RegisterOrMemory NoOperand NoOperand
shape_of op.Neg = shape AnyWidth RegisterOrMemory NoOperand NoOperand
shape_of op.Mul = shape AnyWidth RegisterOrMemory NoOperand NoOperand
shape_of op.Imul = shape AnyWidth RegisterOrMemory RegisterMemoryOrNone NumberOrNone
shape_of op.Div = shape AnyWidth RegisterOrMemory NoOperand NoOperand
shape_of op.Idiv = shape AnyWidth RegisterOrMemory NoOperand NoOperand
shape_of op.Cbw = plain WordOrDoubleword
shape_of op.Cwd = plain WordOrDoubleword
-- shifts and rotations
shape_of op.Rol = shape AnyWidth RegisterOrMemory ShiftCount NoOperand
shape_of op.Ror = shape AnyWidth RegisterOrMemory ShiftCount NoOperand
shape_of op.Rcl = shape AnyWidth RegisterOrMemory ShiftCount NoOperand
shape_of op.Rcr = shape AnyWidth RegisterOrMemory ShiftCount NoOperand
shape_of op.Shl = shape AnyWidth RegisterOrMemory ShiftCount NoOperand
shape_of op.Shr = shape AnyWidth RegisterOrMemory ShiftCount NoOperand
shape_of op.Sar = shape AnyWidth RegisterOrMemory ShiftCount NoOperand
shape_of op.Shld = shape WordOrDoubleword RegisterOrMemory AnyRegister ShiftCount
shape_of op.Shrd = shape WordOrDoubleword RegisterOrMemory AnyRegister ShiftCount
-- bits
shape_of op.Bt = shape WordOrDoubleword RegisterOrMemory BitNumber NoOperand
shape_of op.Bts = shape WordOrDoubleword RegisterOrMemory BitNumber NoOperand
shape_of op.Btr = shape WordOrDoubleword RegisterOrMemory BitNumber NoOperand
shape_of op.Btc = shape WordOrDoubleword RegisterOrMemory BitNumber NoOperand
shape_of op.Bsf = shape WordOrDoubleword AnyRegister RegisterOrMemory NoOperand
shape_of op.Bsr = shape WordOrDoubleword AnyRegister RegisterOrMemory NoOperand
-- the second operand is the condition
shape_of op.Setcc = shape ByteAlone RegisterOrMemory (NumberBelow 16) NoOperand
-- strings
shape_of op.Movs = plain AnyWidth
shape_of op.Cmps = plain AnyWidth
shape_of op.Stos = plain AnyWidth
shape_of op.Lods = plain AnyWidth
shape_of op.Scas = plain AnyWidth
-- transfer of control; a number is a displacement from the next instruction, Jcc's second is the condition
shape_of op.Jcc = shape DoublewordAlone AnyNumber (NumberBelow 16) NoOperand
shape_of op.Jmp = shape DoublewordAlone AnyOperand NoOperand NoOperand
shape_of op.Call = shape DoublewordAlone AnyOperand NoOperand NoOperand
shape_of op.Ret = shape DoublewordAlone (NumberBelow 65536) NoOperand NoOperand
shape_of op.Leave = plain DoublewordAlone
shape_of op.Loop = shape DoublewordAlone AnyNumber NoOperand NoOperand
shape_of op.Loope = shape DoublewordAlone AnyNumber NoOperand NoOperand
shape_of op.Loopne = shape DoublewordAlone AnyNumber NoOperand NoOperand
shape_of op.Jecxz = shape DoublewordAlone AnyNumber NoOperand NoOperand
shape_of op.Int3 = plain DoublewordAlone
shape_of op.Int = shape DoublewordAlone (NumberBelow 256) NoOperand NoOperand
shape_of op.Into = plain DoublewordAlone
shape_of op.Iret = plain DoublewordAlone
-- flags
shape_of op.Clc = plain WordOrDoubleword
shape_of op.Stc = plain WordOrDoubleword
shape_of op.Cmc = plain WordOrDoubleword
shape_of op.Cld = plain WordOrDoubleword
shape_of op.Std = plain WordOrDoubleword
shape_of op.Cli = plain WordOrDoubleword
shape_of op.Sti = plain WordOrDoubleword
shape_of op.Sahf = plain WordOrDoubleword
shape_of op.Lahf = plain WordOrDoubleword
shape_of op.Pushf = plain DoublewordAlone
shape_of op.Popf = plain DoublewordAlone
-- ports and the processor
shape_of op.In = shape AnyWidth RegisterZero PortNumber NoOperand
shape_of op.Out = shape AnyWidth PortNumber RegisterZero NoOperand
shape_of op.Hlt = plain WordOrDoubleword

abbrev pub is_string : Op → Bool
is_string op.Movs = true
is_string op.Cmps = true
is_string op.Stos = true
is_string op.Lods = true
is_string op.Scas = true
is_string o = false

-- ---- well-formed forms

-- there are eight registers, and four shifts of an index
abbrev pub HasRegisters : Operand → Type 0
HasRegisters Absent = Unit {0}
HasRegisters (Register r) = r < 8
HasRegisters (Memory a) = IfSome a.base (λ b. b < 8) × IfSome a.index (λ x. (x.0 < 8) × (x.1 < 4))
HasRegisters (Immediate n) = Unit {0}

abbrev pub memory_count : Operand → ℕ
memory_count Absent = 0
memory_count (Register r) = 0
memory_count (Memory a) = 1
memory_count (Immediate n) = 0

-- IMUL of one operand has any width; that of two or three has a register as target, and not the width 8
abbrev pub IsProduct : Width → Operand → Operand → Operand → Type 0
IsProduct w first Absent third = third ≡ Absent
IsProduct w first second third = (w ≢ W8) × Fits AnyRegister first

pub record IsWellFormed (form : Form) : Type 0 where
  pub width : HasWidth (shape_of form.op).widths form.width
  pub first : Fits (shape_of form.op).first form.first
  pub second : Fits (shape_of form.op).second form.second
  pub third : Fits (shape_of form.op).third form.third
  pub first_registers : HasRegisters form.first
  pub second_registers : HasRegisters form.second
  pub third_registers : HasRegisters form.third
  pub one_memory : memory_count form.first + memory_count form.second + memory_count form.third ≤ 1
  pub product : form.op ≡ op.Imul → IsProduct form.width form.first form.second form.third
  pub once : is_string form.op ≡ false → form.repeat ≡ Once

-- a fact on a form and its length, where there is one
abbrev pub WhenForm : Decoded → (Form → ℕ → Type 0) → Type 0
WhenForm (decoded.Form form size) P = P form size
WhenForm decoded.Undefined P = Unit {0}
WhenForm decoded.Short P = Unit {0}
