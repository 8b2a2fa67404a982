-- Spellings: which bytes are which instruction (Intel 80386 manual, sections 17.1 and 17.2, with the opcodes of Table).
use Rattle.std.specs.Prelude.{◌≡◌, ℕ, ◌<◌, ◌≤◌, List, [], ◌∷◌, ◌++◌, length, take, true, false, Option, Some, None, ◌==◌, ◌&&◌, if◌then◌else◌, slice_index, slice_index_or}
use Rattle.std.specs.List.{list_all}
use Rattle.i386_decode.specs.declared.row.Row.{Row}
use Rattle.i386_decode.specs.declared.row.Entry.{Entry}
use Rattle.i386_decode.specs.declared.row.Entry.TheVariants.{Invalid, One, Many}
use Rattle.i386_decode.specs.declared.form.Form.{Form}
use Rattle.i386_decode.specs.Table.{one_byte, two_byte, group_row}
use Rattle.i386_decode.specs.Fields.{is_prefix, is_narrow, repeat_of, reg, no_modrm, modrm_size, is_memory_only, names_register, sib_size, displacement_size, immediate_size, little_endian, form_of}

-- the bytes of an instruction, part by part; a part that it lacks is empty
pub record Parts : Type 0 where
  pub prefixes : List ℕ
  pub opcode : List ℕ
  pub modrm : List ℕ
  pub sib : List ℕ
  pub displacement : List ℕ
  pub immediate : List ℕ

abbrev pub spelling : Parts → List ℕ
spelling p = p.prefixes ++ (p.opcode ++ (p.modrm ++ (p.sib ++ (p.displacement ++ p.immediate))))

-- what stands at an opcode
unfoldable pub entry_of : List ℕ → Entry
entry_of [] = Invalid
entry_of (b ∷ []) = one_byte b
entry_of (b ∷ c ∷ []) = if b == 0x0f then two_byte c else Invalid
entry_of (b ∷ c ∷ d ∷ bs) = Invalid

-- the row at an entry with this reg field
abbrev pub row_at : Entry → ℕ → Option Row
row_at Invalid n = None
row_at (One row) n = Some row
row_at (Many g) n = group_row g n

abbrev pub modrm_of : Parts → ℕ
modrm_of p = slice_index_or p.modrm 0 no_modrm

abbrev pub sib_of : Parts → ℕ
sib_of p = little_endian p.sib

-- The parts are those that the row asks for.
pub record IsInstruction (row : Row) (p : Parts) : Type 0 where
  -- any number of prefixes, in any order
  pub prefixes : list_all is_prefix p.prefixes ≡ true
  -- the row stands at the opcode, in a group with the reg field of the ModRM byte
  pub opcode : row_at (entry_of p.opcode) (reg (modrm_of p)) ≡ Some row
  -- prefix 66 only where it isn't barred
  pub operand_size : (row.barred && is_narrow p.prefixes) ≡ false
  pub modrm : length p.modrm ≡ modrm_size row.modrm
  -- no register in memory's place
  pub memory : (is_memory_only row.modrm && names_register (modrm_of p)) ≡ false
  pub sib : length p.sib ≡ sib_size (modrm_of p)
  pub displacement : length p.displacement ≡ displacement_size (modrm_of p) (sib_of p)
  pub immediate : length p.immediate ≡ immediate_size row.immediate (is_narrow p.prefixes)

abbrev pub AreBytes : List ℕ → Type 0
AreBytes s = (i : ℕ) → slice_index s i < 256

-- the form of an instruction
abbrev pub meaning : Row → Parts → Form
meaning row p = form_of row (is_narrow p.prefixes) (repeat_of p.prefixes) (modrm_of p) (sib_of p) (little_endian p.displacement) (little_endian p.immediate)

-- The bytes s spell the form f: they are the parts of an instruction, 15 bytes at most in all.
pub record Spells (s : List ℕ) (f : Form) : Type 0 where
  pub row : Row
  pub parts : Parts
  pub instruction : IsInstruction row parts
  pub bytes : AreBytes s
  pub spelled : s ≡ spelling parts
  pub form : f ≡ meaning row parts
  pub size : length s ≤ 15

-- The first n bytes spell the form f.
abbrev pub BeginsWith : List ℕ → Form → ℕ → Type 0
BeginsWith bytes f n = (n ≤ length bytes) × Spells (take n bytes) f

-- The bytes are the beginning of a spelling, and not all of it.
pub record BeginsSpelling (bytes : List ℕ) : Type 0 where
  pub form : Form
  pub more : List ℕ
  pub some : 0 < length more
  pub spells : Spells (bytes ++ more) form

-- No spelling stands at the front of the bytes, and they begin none.
abbrev pub SpellsNothing : List ℕ → Type 0
SpellsNothing bytes = ((f : Form) (n : ℕ) → BeginsWith bytes f n → ⊥) × (BeginsSpelling bytes → ⊥)
