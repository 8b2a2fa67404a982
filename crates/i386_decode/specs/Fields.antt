-- The fields of an instruction: how long each is, and what they make of the operands (Intel 80386 manual, section 17.2).
use Rattle.std.specs.Prelude.{ℕ, ◌+◌, ◌*◌, ◌/◌, ◌%◌, List, [], ◌∷◌, Bool, true, false, Option, Some, None, nat_lt, ◌==◌, not, ◌&&◌, ◌||◌, if◌then◌else◌}
use Rattle.std.specs.List.{list_any}
use Rattle.i386_decode.specs.declared.row.Size.{Size}
use Rattle.i386_decode.specs.declared.row.Size.TheVariants.{Byte, Full}
use Rattle.i386_decode.specs.declared.row.ModRm.{ModRm}
use Rattle.i386_decode.specs.declared.row.ModRm.TheVariants.{Without, Either, MemoryOnly}
use Rattle.i386_decode.specs.declared.row.Place.{Place}
use Rattle.i386_decode.specs.declared.row.Place.TheVariants.{Nothing, RegField, RmField, Fixed, Number, Immediate, Offset}
use Rattle.i386_decode.specs.declared.row.ImmediateKind.{ImmediateKind}
use Rattle.i386_decode.specs.declared.row.ImmediateKind.TheVariants.{NoBytes, OneByte, SignedByte, TwoBytes, FullWidth, FourBytes}
use Rattle.i386_decode.specs.declared.row.Row.{Row}
use Rattle.cpu_state.specs.declared.width.Width.{Width}
use Rattle.cpu_state.specs.declared.width.Width.TheVariants.{W8, W16, W32}
use Rattle.i386_decode.specs.declared.form.Repeat.{Repeat}
use Rattle.i386_decode.specs.declared.form.Repeat.TheVariants.{Once, WhileEqual, WhileUnequal}
use Rattle.i386_decode.specs.declared.form.Address.{Address}
use Rattle.i386_decode.specs.declared.form.Operand.{Operand}
use Rattle.i386_decode.specs.declared.form.Operand.TheVariants as operand
use Rattle.i386_decode.specs.declared.form.Form.{Form}

-- ---- prefixes (section 17.2)

-- operand size 66; repeats F2 and F3; segments ES CS SS DS FS GS and LOCK, which have no effect here (this machine's own
-- rule). The prefix 67 for an address size of 16 isn't among them: it begins no spelling (own).
abbrev pub prefix_bytes : List ℕ
prefix_bytes = 0x66 ∷ 0xf2 ∷ 0xf3 ∷ 0x26 ∷ 0x2e ∷ 0x36 ∷ 0x3e ∷ 0x64 ∷ 0x65 ∷ 0xf0 ∷ []

abbrev pub is_prefix : ℕ → Bool
is_prefix b = list_any (λ p. b == p) prefix_bytes

-- whether the operand size is 16
abbrev pub is_narrow : List ℕ → Bool
is_narrow prefixes = list_any (λ b. b == 0x66) prefixes

-- REPE is F3 and REPNE is F2; the last one counts (own)
abbrev pub repeat_by : Repeat → ℕ → Repeat
repeat_by r b = if b == 0xf3 then WhileEqual else if b == 0xf2 then WhileUnequal else r

abbrev pub repeat_from : Repeat → List ℕ → Repeat
repeat_from r [] = r
repeat_from r (b ∷ bs) = repeat_from (repeat_by r b) bs

abbrev pub repeat_of : List ℕ → Repeat
repeat_of prefixes = repeat_from Once prefixes

-- ---- the ModRM byte and the SIB byte (section 17.2.1, tables 17-3 and 17-4)

-- bits 7 and 6, 5 to 3, and 2 to 0 of a ModRM byte
abbrev pub mode : ℕ → ℕ
mode m = m / 64

abbrev pub reg : ℕ → ℕ
reg m = (m / 8) % 8

abbrev pub rm : ℕ → ℕ
rm m = m % 8

-- what stands for the ModRM byte where there is none: like a register it has no SIB byte and no displacement
abbrev pub no_modrm : ℕ
no_modrm = 0xc0

abbrev pub modrm_size : ModRm → ℕ
modrm_size Without = 0
modrm_size Either = 1
modrm_size MemoryOnly = 1

abbrev pub is_memory_only : ModRm → Bool
is_memory_only Without = false
is_memory_only Either = false
is_memory_only MemoryOnly = true

-- with mod 11 the r/m field is a register
abbrev pub names_register : ℕ → Bool
names_register m = mode m == 3

-- r/m 100 with mod 00, 01 or 10 has a SIB byte
abbrev pub sib_size : ℕ → ℕ
sib_size m = if nat_lt (mode m) 3 && (rm m == 4) then 1 else 0

-- mod 00 has a displacement of 32 bits with r/m 101 and with SIB base 101, mod 01 one of 8 bits, mod 10 one of 32 bits
abbrev pub displacement_size : ℕ → ℕ → ℕ
displacement_size m s =
    if mode m == 0 then (if (rm m == 5) || ((rm m == 4) && (s % 8 == 5)) then 4 else 0)
    else if mode m == 1 then 1 else if mode m == 2 then 4 else 0

-- how many bytes an immediate has
abbrev pub immediate_size : ImmediateKind → Bool → ℕ
immediate_size NoBytes narrow = 0
immediate_size OneByte narrow = 1
immediate_size SignedByte narrow = 1
immediate_size TwoBytes narrow = 2
immediate_size FullWidth narrow = if narrow then 2 else 4
immediate_size FourBytes narrow = 4

-- ---- numbers (section 2.2)

abbrev pub little_endian : List ℕ → ℕ
little_endian [] = 0
little_endian (b ∷ bs) = b + 256 * little_endian bs

-- the 32-bit number of a signed byte
abbrev pub sign_extended : ℕ → ℕ
sign_extended b = if nat_lt b 128 then b else b + 0xffffff00

-- ---- operands (sections 2.5, 17.2.1)

-- the base: that of the SIB byte with r/m 100, else r/m; none where a displacement of 32 bits stands in its place
abbrev pub base_of : ℕ → ℕ → Option ℕ
base_of m s =
    if rm m == 4 then (if (s % 8 == 5) && (mode m == 0) then None else Some (s % 8))
    else (if (rm m == 5) && (mode m == 0) then None else Some (rm m))

-- the index and its shift, from the SIB byte; index 100 is none
abbrev pub index_of : ℕ → ℕ → Option (ℕ × ℕ)
index_of m s = if (rm m == 4) && not ((s / 8) % 8 == 4) then Some ((s / 8) % 8, s / 64) else None

-- a displacement of 8 bits is extended with its sign
abbrev pub address_of : ℕ → ℕ → ℕ → Address
address_of m s d = record { base = base_of m s; index = index_of m s; displacement = if mode m == 1 then sign_extended d else d }

-- memory at an offset that stands in the instruction
abbrev pub offset_of : ℕ → Address
offset_of i = record { base = None; index = None; displacement = i }

-- what is extended with its sign, and what with zeros
abbrev pub extended : ImmediateKind → ℕ → ℕ
extended NoBytes i = i
extended OneByte i = i
extended SignedByte i = sign_extended i
extended TwoBytes i = i
extended FullWidth i = i
extended FourBytes i = i

-- the operand at a place, from the ModRM byte, the SIB byte, the displacement and the immediate
abbrev pub operand_of : Place → ℕ → ℕ → ℕ → ℕ → Operand
operand_of Nothing m s d i = operand.Absent
operand_of RegField m s d i = operand.Register (reg m)
operand_of RmField m s d i = if names_register m then operand.Register (rm m) else operand.Memory (address_of m s d)
operand_of (Fixed r) m s d i = operand.Register r
operand_of (Number n) m s d i = operand.Immediate n
operand_of Immediate m s d i = operand.Immediate i
operand_of Offset m s d i = operand.Memory (offset_of i)

-- section 17.1
abbrev pub width_of : Size → Bool → Width
width_of Byte narrow = W8
width_of Full narrow = if narrow then W16 else W32

-- the form of a row with these prefixes and fields
unfoldable pub form_of : Row → Bool → Repeat → ℕ → ℕ → ℕ → ℕ → Form
form_of row narrow repeat m s d i = record {
  op = row.op;
  width = width_of row.size narrow;
  first = operand_of row.first m s d (extended row.immediate i);
  second = operand_of row.second m s d (extended row.immediate i);
  third = operand_of row.third m s d (extended row.immediate i);
  repeat = if row.string then repeat else Once;
}
