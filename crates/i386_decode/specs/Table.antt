-- The opcode map: which instruction stands at each opcode (Intel 80386 manual, chapter 17 and appendix A).
use Rattle.std.specs.Prelude.{ℕ, ◌+◌, ◌-◌, ◌/◌, ◌%◌, List, [], ◌∷◌, ◌++◌, Option, Some, None, nat_lt, ◌==◌, ◌&&◌, if◌then◌else◌, slice_index_or, true, false}
use Rattle.cpu_state.specs.declared.op.Op.{Op}
use Rattle.cpu_state.specs.declared.op.Op.TheVariants as op
use Rattle.i386_decode.specs.declared.row.Size.{Size}
use Rattle.i386_decode.specs.declared.row.Size.TheVariants.{Byte, Full}
use Rattle.i386_decode.specs.declared.row.ModRm.{ModRm}
use Rattle.i386_decode.specs.declared.row.ModRm.TheVariants.{Without, Either, MemoryOnly}
use Rattle.i386_decode.specs.declared.row.Place.{Place}
use Rattle.i386_decode.specs.declared.row.Place.TheVariants.{Nothing, RegField, RmField, Fixed, Number, Immediate, Offset}
use Rattle.i386_decode.specs.declared.row.ImmediateKind.{ImmediateKind}
use Rattle.i386_decode.specs.declared.row.ImmediateKind.TheVariants.{NoBytes, OneByte, SignedByte, TwoBytes, FullWidth, FourBytes}
use Rattle.i386_decode.specs.declared.row.Row.{Row}
use Rattle.i386_decode.specs.declared.row.Group.{Group}
use Rattle.i386_decode.specs.declared.row.Group.TheVariants as group
use Rattle.i386_decode.specs.declared.row.Entry.{Entry}
use Rattle.i386_decode.specs.declared.row.Entry.TheVariants.{Invalid, One, Many}

-- ---- rows
-- A row names the operation, the size of its operands (b or v of the manual), whether it has a ModRM byte, where its
-- three operands stand, the target first, and which immediate follows. In the letters of appendix A, RmField is E,
-- RegField is G, Immediate is I and J, Offset is O, and a MemoryOnly ModRM byte is M.

abbrev pub row : Op → Size → ModRm → Place → Place → Place → ImmediateKind → Row
row o s m first second third i = record { op = o; size = s; modrm = m; first = first; second = second; third = third; immediate = i; barred = false; string = false }

-- the row, with prefix 66 barred (this machine's own rule)
abbrev pub barred : Row → Row
barred r = record r { barred = true }

-- the row of a string instruction, before which a repeat prefix counts
abbrev pub string : Row → Row
string r = record r { string = true }

-- the eight operations of opcodes 00 to 3F and of group 1, by number
abbrev pub arithmetic : ℕ → Op
arithmetic k = slice_index_or (op.Add ∷ op.Or ∷ op.Adc ∷ op.Sbb ∷ op.And ∷ op.Sub ∷ op.Xor ∷ op.Cmp ∷ []) k op.Add

-- ---- patterns: which opcodes a line of the map is about

-- the opcodes first, first + step, first + 2 * step and so on, in all so many, and what stands at each
pub record Pattern : Type 0 where
  pub first : ℕ
  pub step : ℕ
  pub count : ℕ
  pub entry : ℕ → Entry

-- one opcode
abbrev pub at : ℕ → Entry → Pattern
at b e = record { first = b; step = 1; count = 1; entry = λ _. e }

-- opcodes in a row, whose low bits are a number
abbrev pub from : ℕ → ℕ → (ℕ → Row) → Pattern
from b n f = record { first = b; step = 1; count = n; entry = λ k. One (f k) }

-- one opcode in each of eight groups of eight
abbrev pub eights : ℕ → (ℕ → Row) → Pattern
eights b f = record { first = b; step = 8; count = 8; entry = λ k. One (f k) }

-- an opcode for bytes, and the next one for the full width
abbrev pub pair : ℕ → (Size → Row) → List Pattern
pair b f = at b (One (f Byte)) ∷ at (b + 1) (One (f Full)) ∷ []

-- what stands at an opcode; no opcode is in two patterns, and one that is in none spells nothing
abbrev pub lookup : List Pattern → ℕ → Entry
lookup [] b = Invalid
lookup (p ∷ ps) b = if nat_lt p.first (b + 1) && ((b - p.first) % p.step == 0) && nat_lt ((b - p.first) / p.step) p.count then p.entry ((b - p.first) / p.step) else lookup ps b

-- ---- shapes of rows

-- an immediate of the operation's width
abbrev pub wide : Size → ImmediateKind
wide Byte = OneByte
wide Full = FullWidth

-- r/m, r
abbrev pub rm_reg : Op → Size → Row
rm_reg o s = row o s Either RmField RegField Nothing NoBytes

-- r, r/m
abbrev pub reg_rm : Op → Size → Row
reg_rm o s = row o s Either RegField RmField Nothing NoBytes

-- AL or eAX, immediate
abbrev pub eax_imm : Op → Size → Row
eax_imm o s = row o s Without (Fixed 0) Immediate Nothing (wide s)

-- r/m, immediate
abbrev pub rm_imm : Op → Size → Row
rm_imm o s = row o s Either RmField Immediate Nothing (wide s)

-- r/m alone
abbrev pub rm_alone : Op → Size → Row
rm_alone o s = row o s Either RmField Nothing Nothing NoBytes

-- the register that the opcode names
abbrev pub register : Op → ℕ → Row
register o r = row o Full Without (Fixed r) Nothing Nothing NoBytes

-- no operands
abbrev pub alone : Op → Row
alone o = row o Full Without Nothing Nothing Nothing NoBytes

-- a displacement of one byte, or of four, from the next instruction; prefix 66 is barred
abbrev pub short_jump : Op → Row
short_jump o = barred (row o Full Without Immediate Nothing Nothing SignedByte)

abbrev pub near_jump : Op → Row
near_jump o = barred (row o Full Without Immediate Nothing Nothing FourBytes)

-- a string instruction
abbrev pub strings : Op → Size → Row
strings o s = string (row o s Without Nothing Nothing Nothing NoBytes)

-- ---- the opcodes of one byte

abbrev pub one_byte_patterns : List Pattern
one_byte_patterns =
    -- ADD OR ADC SBB AND SUB XOR CMP (3.2.1, 3.2.2, 3.4.1)
    eights 0x00 (λ k. rm_reg (arithmetic k) Byte)
    ∷ eights 0x01 (λ k. rm_reg (arithmetic k) Full)
    ∷ eights 0x02 (λ k. reg_rm (arithmetic k) Byte)
    ∷ eights 0x03 (λ k. reg_rm (arithmetic k) Full)
    ∷ eights 0x04 (λ k. eax_imm (arithmetic k) Byte)
    ∷ eights 0x05 (λ k. eax_imm (arithmetic k) Full)
    -- INC and DEC of a general register (3.2.1)
    ∷ from 0x40 8 (register op.Inc)
    ∷ from 0x48 8 (register op.Dec)
    -- PUSH and POP of a general register, of all, and of an immediate (3.1.2)
    ∷ from 0x50 8 (register op.Push)
    ∷ from 0x58 8 (register op.Pop)
    ∷ at 0x60 (One (barred (alone op.Pusha)))
    ∷ at 0x61 (One (barred (alone op.Popa)))
    ∷ at 0x68 (One (row op.Push Full Without Immediate Nothing Nothing FullWidth))
    ∷ at 0x6a (One (row op.Push Full Without Immediate Nothing Nothing SignedByte))
    -- IMUL of three operands (3.2.3)
    ∷ at 0x69 (One (row op.Imul Full Either RegField RmField Immediate FullWidth))
    ∷ at 0x6b (One (row op.Imul Full Either RegField RmField Immediate SignedByte))
    -- short displacement jump on condition (3.5.2.1); the low four bits are the condition
    ∷ from 0x70 16 (λ c. barred (row op.Jcc Full Without Immediate (Number c) Nothing SignedByte))
    -- immediate, group 1 (3.2.1, 3.2.2, 3.4.1)
    ∷ at 0x80 (Many group.ImmediateByte)
    ∷ at 0x81 (Many group.ImmediateFull)
    ∷ at 0x83 (Many group.ImmediateSigned)
    -- TEST (3.4.6), XCHG and MOV (3.1.1)
    ∷ pair 0x84 (rm_reg op.Test)
    ++ pair 0x86 (rm_reg op.Xchg)
    ++ pair 0x88 (rm_reg op.Mov)
    ++ pair 0x8a (reg_rm op.Mov)
    -- LEA (3.11.1) and POP (3.1.2)
    ++ at 0x8d (One (row op.Lea Full MemoryOnly RegField RmField Nothing NoBytes))
    ∷ at 0x8f (Many group.Pop)
    -- XCHG of a general register with eAX (3.1.1); 90 is NOP (3.11.2)
    ∷ from 0x90 8 (λ r. row op.Xchg Full Without (Fixed 0) (Fixed r) Nothing NoBytes)
    -- CBW or CWDE, CWD or CDQ (3.1.3)
    ∷ at 0x98 (One (alone op.Cbw))
    ∷ at 0x99 (One (alone op.Cwd))
    -- PUSHF, POPF, SAHF and LAHF (3.8.2)
    ∷ at 0x9c (One (barred (alone op.Pushf)))
    ∷ at 0x9d (One (barred (alone op.Popf)))
    ∷ at 0x9e (One (alone op.Sahf))
    ∷ at 0x9f (One (alone op.Lahf))
    -- MOV between AL or eAX and memory at an offset of 32 bits (3.1.1)
    ∷ pair 0xa0 (λ s. row op.Mov s Without (Fixed 0) Offset Nothing FourBytes)
    ++ pair 0xa2 (λ s. row op.Mov s Without Offset (Fixed 0) Nothing FourBytes)
    -- string instructions (3.6), and TEST of AL or eAX with an immediate (3.4.6)
    ++ pair 0xa4 (strings op.Movs)
    ++ pair 0xa6 (strings op.Cmps)
    ++ pair 0xa8 (eax_imm op.Test)
    ++ pair 0xaa (strings op.Stos)
    ++ pair 0xac (strings op.Lods)
    ++ pair 0xae (strings op.Scas)
    -- MOV of an immediate into a general register (3.1.1)
    ++ from 0xb0 8 (λ r. row op.Mov Byte Without (Fixed r) Immediate Nothing OneByte)
    ∷ from 0xb8 8 (λ r. row op.Mov Full Without (Fixed r) Immediate Nothing FullWidth)
    -- shift, group 2, by an immediate (3.4.4)
    ∷ at 0xc0 (Many group.ShiftByteImmediate)
    ∷ at 0xc1 (Many group.ShiftFullImmediate)
    -- near RET (3.5.1.3), without a count by 0
    ∷ at 0xc2 (One (barred (row op.Ret Full Without Immediate Nothing Nothing TwoBytes)))
    ∷ at 0xc3 (One (barred (row op.Ret Full Without (Number 0) Nothing Nothing NoBytes)))
    -- MOV of an immediate (3.1.1)
    ∷ at 0xc6 (Many group.MovByte)
    ∷ at 0xc7 (Many group.MovFull)
    -- LEAVE (3.7)
    ∷ at 0xc9 (One (barred (alone op.Leave)))
    -- software-generated interrupts (3.5.3) and IRET (3.5.1.3)
    ∷ at 0xcc (One (barred (alone op.Int3)))
    ∷ at 0xcd (One (barred (row op.Int Full Without Immediate Nothing Nothing OneByte)))
    ∷ at 0xce (One (barred (alone op.Into)))
    ∷ at 0xcf (One (barred (alone op.Iret)))
    -- shift, group 2, by 1 and by CL (3.4.4)
    ∷ at 0xd0 (Many group.ShiftByteOne)
    ∷ at 0xd1 (Many group.ShiftFullOne)
    ∷ at 0xd2 (Many group.ShiftByteCl)
    ∷ at 0xd3 (Many group.ShiftFullCl)
    -- XLAT (3.11.3)
    ∷ at 0xd7 (One (alone op.Xlat))
    -- loop instructions and JECXZ (3.5.2.2, 3.5.2.3)
    ∷ at 0xe0 (One (short_jump op.Loopne))
    ∷ at 0xe1 (One (short_jump op.Loope))
    ∷ at 0xe2 (One (short_jump op.Loop))
    ∷ at 0xe3 (One (short_jump op.Jecxz))
    -- IN and OUT (8.2.1), the port as an immediate
    ∷ pair 0xe4 (λ s. row op.In s Without (Fixed 0) Immediate Nothing OneByte)
    ++ pair 0xe6 (λ s. row op.Out s Without Immediate (Fixed 0) Nothing OneByte)
    -- near CALL and JMP, short JMP (3.5.1)
    ++ at 0xe8 (One (near_jump op.Call))
    ∷ at 0xe9 (One (near_jump op.Jmp))
    ∷ at 0xeb (One (short_jump op.Jmp))
    -- IN and OUT (8.2.1), the port in DX
    ∷ pair 0xec (λ s. row op.In s Without (Fixed 0) (Fixed 2) Nothing NoBytes)
    ++ pair 0xee (λ s. row op.Out s Without (Fixed 2) (Fixed 0) Nothing NoBytes)
    -- HLT (4.2), CMC (3.8.1)
    ++ at 0xf4 (One (alone op.Hlt))
    ∷ at 0xf5 (One (alone op.Cmc))
    -- unary, group 3 (3.4.6, 3.4.1, 3.2.2, 3.2.3, 3.2.4)
    ∷ at 0xf6 (Many group.UnaryByte)
    ∷ at 0xf7 (Many group.UnaryFull)
    -- flag control (3.8.1; CLI and STI 4.2)
    ∷ at 0xf8 (One (alone op.Clc))
    ∷ at 0xf9 (One (alone op.Stc))
    ∷ at 0xfa (One (alone op.Cli))
    ∷ at 0xfb (One (alone op.Sti))
    ∷ at 0xfc (One (alone op.Cld))
    ∷ at 0xfd (One (alone op.Std))
    -- INC and DEC, group 4 (3.2.1); indirect, group 5 (3.2.1, 3.5.1, 3.1.2)
    ∷ at 0xfe (Many group.IncDecByte)
    ∷ at 0xff (Many group.Indirect)
    ∷ []

unfoldable pub one_byte : ℕ → Entry
one_byte b = lookup one_byte_patterns b

-- ---- the opcodes of two bytes, the first of which is 0F

abbrev pub two_byte_patterns : List Pattern
two_byte_patterns =
    -- long displacement jump on condition (3.5.2.1), byte set on condition (3.4.5); the low four bits are the condition
    from 0x80 16 (λ c. barred (row op.Jcc Full Without Immediate (Number c) Nothing FourBytes))
    ∷ from 0x90 16 (λ c. row op.Setcc Byte Either RmField (Number c) Nothing NoBytes)
    -- bit test and modify (3.4.2), with a register and, as group 8, with an immediate
    ∷ at 0xa3 (One (rm_reg op.Bt Full))
    ∷ at 0xab (One (rm_reg op.Bts Full))
    ∷ at 0xb3 (One (rm_reg op.Btr Full))
    ∷ at 0xbb (One (rm_reg op.Btc Full))
    ∷ at 0xba (Many group.BitTest)
    -- double-shift (3.4.4.2), by an immediate or by CL
    ∷ at 0xa4 (One (row op.Shld Full Either RmField RegField Immediate OneByte))
    ∷ at 0xa5 (One (row op.Shld Full Either RmField RegField (Fixed 1) NoBytes))
    ∷ at 0xac (One (row op.Shrd Full Either RmField RegField Immediate OneByte))
    ∷ at 0xad (One (row op.Shrd Full Either RmField RegField (Fixed 1) NoBytes))
    -- IMUL of two operands (3.2.3)
    ∷ at 0xaf (One (reg_rm op.Imul Full))
    -- MOVZX and MOVSX (3.1.3); the number is the source's width
    ∷ at 0xb6 (One (row op.Movzx Full Either RegField RmField (Number 8) NoBytes))
    ∷ at 0xb7 (One (row op.Movzx Full Either RegField RmField (Number 16) NoBytes))
    ∷ at 0xbe (One (row op.Movsx Full Either RegField RmField (Number 8) NoBytes))
    ∷ at 0xbf (One (row op.Movsx Full Either RegField RmField (Number 16) NoBytes))
    -- bit scan (3.4.3)
    ∷ at 0xbc (One (reg_rm op.Bsf Full))
    ∷ at 0xbd (One (reg_rm op.Bsr Full))
    ∷ []

unfoldable pub two_byte : ℕ → Entry
two_byte b = lookup two_byte_patterns b

-- ---- the opcodes whose row depends on the reg field of their ModRM byte

abbrev pub eight : (ℕ → Row) → List (Option Row)
eight f = Some (f 0) ∷ Some (f 1) ∷ Some (f 2) ∷ Some (f 3) ∷ Some (f 4) ∷ Some (f 5) ∷ Some (f 6) ∷ Some (f 7) ∷ []

-- group 2: shifts and rotations
abbrev pub shifts : (Op → Row) → List (Option Row)
shifts f = Some (f op.Rol) ∷ Some (f op.Ror) ∷ Some (f op.Rcl) ∷ Some (f op.Rcr) ∷ Some (f op.Shl) ∷ Some (f op.Shr) ∷ None ∷ Some (f op.Sar) ∷ []

-- group 3: unary
abbrev pub unary : Size → List (Option Row)
unary s = Some (rm_imm op.Test s) ∷ None ∷ Some (rm_alone op.Not s) ∷ Some (rm_alone op.Neg s) ∷ Some (rm_alone op.Mul s) ∷ Some (rm_alone op.Imul s) ∷ Some (rm_alone op.Div s) ∷ Some (rm_alone op.Idiv s) ∷ []

-- group 8: bit test and modify
abbrev pub bit_imm : Op → Option Row
bit_imm o = Some (row o Full Either RmField Immediate Nothing OneByte)

-- the rows of a group, from reg field 0 on; where none stands, the reg field spells nothing
abbrev pub group_rows : Group → List (Option Row)
group_rows group.ImmediateByte = eight (λ k. rm_imm (arithmetic k) Byte)
group_rows group.ImmediateFull = eight (λ k. rm_imm (arithmetic k) Full)
group_rows group.ImmediateSigned = eight (λ k. row (arithmetic k) Full Either RmField Immediate Nothing SignedByte)
group_rows group.Pop = Some (rm_alone op.Pop Full) ∷ []
group_rows group.ShiftByteImmediate = shifts (λ o. row o Byte Either RmField Immediate Nothing OneByte)
group_rows group.ShiftFullImmediate = shifts (λ o. row o Full Either RmField Immediate Nothing OneByte)
group_rows group.ShiftByteOne = shifts (λ o. row o Byte Either RmField (Number 1) Nothing NoBytes)
group_rows group.ShiftFullOne = shifts (λ o. row o Full Either RmField (Number 1) Nothing NoBytes)
group_rows group.ShiftByteCl = shifts (λ o. row o Byte Either RmField (Fixed 1) Nothing NoBytes)
group_rows group.ShiftFullCl = shifts (λ o. row o Full Either RmField (Fixed 1) Nothing NoBytes)
group_rows group.MovByte = Some (rm_imm op.Mov Byte) ∷ []
group_rows group.MovFull = Some (rm_imm op.Mov Full) ∷ []
group_rows group.UnaryByte = unary Byte
group_rows group.UnaryFull = unary Full
group_rows group.IncDecByte = Some (rm_alone op.Inc Byte) ∷ Some (rm_alone op.Dec Byte) ∷ []
group_rows group.Indirect = Some (rm_alone op.Inc Full) ∷ Some (rm_alone op.Dec Full) ∷ Some (barred (rm_alone op.Call Full)) ∷ None ∷ Some (barred (rm_alone op.Jmp Full)) ∷ None ∷ Some (rm_alone op.Push Full) ∷ []
group_rows group.BitTest = None ∷ None ∷ None ∷ None ∷ bit_imm op.Bt ∷ bit_imm op.Bts ∷ bit_imm op.Btr ∷ bit_imm op.Btc ∷ []

unfoldable pub group_row : Group → ℕ → Option Row
group_row g n = slice_index_or (group_rows g) n None
