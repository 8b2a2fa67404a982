-- Decoding as a function that computes. What a spelling is stands in Spelling and not here; decode's clauses say that this
-- function agrees with it. It reads from left to right, and where the bytes end within an instruction, it takes those of
-- the shortest spelling for the ones that are missing.
use Rattle.std.specs.Prelude.{ℕ, zero, suc, ◌+◌, List, [], ◌∷◌, length, take, drop, Bool, Option, Some, None, nat_lt, ◌==◌, ◌&&◌, ◌||◌, if◌then◌else◌, slice_index_or}
use Rattle.i386_decode.specs.declared.row.Row.{Row}
use Rattle.i386_decode.specs.declared.row.Group.{Group}
use Rattle.i386_decode.specs.declared.row.Group.TheVariants as group
use Rattle.i386_decode.specs.declared.row.Entry.{Entry}
use Rattle.i386_decode.specs.declared.row.Entry.TheVariants.{Invalid, One, Many}
use Rattle.i386_decode.specs.declared.form.Repeat.{Repeat}
use Rattle.i386_decode.specs.declared.form.Repeat.TheVariants.{Once}
use Rattle.i386_decode.specs.declared.form.Address.{Address}
use Rattle.i386_decode.specs.declared.form.Operand.{Operand}
use Rattle.i386_decode.specs.declared.form.Operand.TheVariants.{Absent}
use Rattle.cpu_state.specs.declared.op.Op.{Op}
use Rattle.cpu_state.specs.declared.width.Width.{Width}
use Rattle.i386_decode.specs.declared.form.Form.{Form}
use Rattle.i386_decode.specs.declared.form.Decoded.{Decoded}
use Rattle.i386_decode.specs.declared.form.Decoded.TheVariants as decoded
use Rattle.i386_decode.specs.Fields.{is_prefix, is_narrow, repeat_of, reg, no_modrm, modrm_size, is_memory_only, names_register, sib_size, displacement_size, immediate_size, little_endian, form_of}
use Rattle.i386_decode.specs.Spelling.{entry_of, row_at}

-- the first n bytes, with zeros for those that are missing
abbrev pub filled : ℕ → List ℕ → List ℕ
filled zero bs = []
filled (suc n) bs = slice_index_or bs 0 0 ∷ filled n (drop 1 bs)

abbrev pub number : ℕ → List ℕ → ℕ
number n bs = little_endian (filled n bs)

-- the prefixes at the front
abbrev pub front : List ℕ → List ℕ
front [] = []
front (b ∷ bs) = if is_prefix b then b ∷ front bs else []

-- the opcode: INC EAX where it is missing, and IMUL where its second byte is
abbrev pub opcode_at : List ℕ → List ℕ
opcode_at bs = if slice_index_or bs 0 0x40 == 0x0f then 0x0f ∷ slice_index_or bs 1 0xaf ∷ [] else slice_index_or bs 0 0x40 ∷ []

-- the ModRM byte of the shortest spelling, if there is one
abbrev pub least_of : Row → Option ℕ
least_of row = if modrm_size row.modrm == 0 then None else Some 0

-- NOT is the shortest of the unary group, BT the first of group 8
abbrev pub least_in : Group → ℕ
least_in group.UnaryByte = 16
least_in group.UnaryFull = 16
least_in group.BitTest = 32
least_in g = 0

abbrev pub least_modrm : Entry → Option ℕ
least_modrm Invalid = None
least_modrm (One row) = least_of row
least_modrm (Many g) = Some (least_in g)

abbrev pub modrm_or : Option ℕ → List ℕ → ℕ
modrm_or None bs = no_modrm
modrm_or (Some least) bs = slice_index_or bs 0 least

-- what an instruction of so many bytes is, where there are len
abbrev pub finish : ℕ → ℕ → Form → Decoded
finish total len form = if nat_lt 15 total then decoded.Undefined else if nat_lt len total then decoded.Short else decoded.Form form total

unfoldable pub fields_at : Row → Bool → Repeat → ℕ → ℕ → ℕ → List ℕ → Decoded
fields_at row narrow repeat used len m bs =
    let ns = sib_size m in
    let s = number ns bs in
    let nd = displacement_size m s in
    let ni = immediate_size row.immediate narrow in
    finish (used + ns + nd + ni) len (form_of row narrow repeat m s (number nd (drop ns bs)) (number ni (drop nd (drop ns bs))))

abbrev pub is_refused : Row → Bool → ℕ → Bool
is_refused row narrow m = (row.barred && narrow) || (is_memory_only row.modrm && names_register m)

abbrev pub row_read : Option Row → Bool → Repeat → ℕ → ℕ → ℕ → List ℕ → Decoded
row_read None narrow repeat used len m bs = decoded.Undefined
row_read (Some row) narrow repeat used len m bs =
    if is_refused row narrow m then decoded.Undefined
    else fields_at row narrow repeat (used + modrm_size row.modrm) len m (drop (modrm_size row.modrm) bs)

unfoldable pub entry_read : Entry → Bool → Repeat → ℕ → ℕ → List ℕ → Decoded
entry_read entry narrow repeat used len bs =
    let m = modrm_or (least_modrm entry) bs in
    row_read (row_at entry (reg m)) narrow repeat used len m bs

unfoldable pub answer : List ℕ → Decoded
answer bytes =
    let prefixes = front bytes in
    let rest = drop (length prefixes) bytes in
    let opcode = opcode_at rest in
    entry_read (entry_of opcode) (is_narrow prefixes) (repeat_of prefixes) (length prefixes + length opcode) (length bytes) (drop (length opcode) rest)

-- what the bytes begin with, of which at most 15 count; on given bytes it computes where decode_of, answer, entry_read,
-- fields_at, form_of, entry_of, one_byte, two_byte and group_row are unfolded
unfoldable pub decode_of : List ℕ → Decoded
decode_of bytes = answer (take 15 bytes)

-- ---- forms to compare with

-- a form with two operands and no repeat
abbrev pub form_with : Op → Width → Operand → Operand → Form
form_with o w a b = record { op = o; width = w; first = a; second = b; third = Absent; repeat = Once }

-- memory at a base with a displacement
abbrev pub at_base : ℕ → ℕ → Address
at_base r d = record { base = Some r; index = None; displacement = d }
