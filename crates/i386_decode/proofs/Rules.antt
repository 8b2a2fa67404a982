-- Rules of the table: each is a test that is computed over all of it, and what the test says at each entry.
use Rattle.std.proofs.Common.{◌≡◌, ℕ, ◌+◌, ◌<◌, ◌≤◌, Bool, true, false, ◌&&◌, Option, Some, None, refl, sym, ap, subst, ◌∙◌, arith, inl, inr}
use Rattle.std.specs.Prelude.{◌==◌, nat_le}
use Rattle.std.specs.List.{list_all, range_with_len}
use Rattle.std.proofs.lemmas.Bool.{eqb-true, leb-true}
use Rattle.cpu_state.specs.declared.op.Op.TheVariants as op
use Rattle.i386_decode.specs.declared.row.Size.TheVariants.{Byte}
use Rattle.i386_decode.specs.declared.row.ModRm.{ModRm}
use Rattle.i386_decode.specs.declared.row.ModRm.TheVariants.{Without, Either, MemoryOnly}
use Rattle.i386_decode.specs.declared.row.Place.TheVariants.{Nothing}
use Rattle.i386_decode.specs.declared.row.ImmediateKind.TheVariants.{NoBytes}
use Rattle.i386_decode.specs.declared.row.Row.{Row}
use Rattle.i386_decode.specs.declared.row.Group.{Group}
use Rattle.i386_decode.specs.declared.row.Group.TheVariants as group
use Rattle.i386_decode.specs.declared.row.Entry.{Entry}
use Rattle.i386_decode.specs.declared.row.Entry.TheVariants.{Invalid, One, Many}
use Rattle.i386_decode.specs.Table.{row, one_byte, two_byte, group_row, group_rows}
use Rattle.i386_decode.specs.Fields.{prefix_bytes, is_prefix, modrm_size, immediate_size, reg}
use Rattle.i386_decode.specs.Spelling.{row_at}
use Rattle.i386_decode.specs.Reading.{least_in}
use Rattle.i386_decode.proofs.BoolTests.{and_left, and_right, any_equal, all_range, all_at, bool_cases}

abbrev some : Row → Option Row
some r = Some r

pub some_is : (r s : Row) → some r ≡ some s → r ≡ s
some_is r s e = cc

-- ---- no opcode of one byte is a prefix, or the first byte of two

abbrev is_invalid : Entry → Bool
is_invalid Invalid = true
is_invalid (One r) = false
is_invalid (Many g) = false

invalid_is : (e : Entry) (n : ℕ) (r : Row) → is_invalid e ≡ true → row_at e n ≡ Some r → (b : Bool) → b ≡ false
invalid_is Invalid n r e h b = absurd cc
invalid_is (One s) n r e h b = absurd cc
invalid_is (Many g) n r e h b = absurd cc

prefixes_invalid : list_all (λ b. is_invalid (one_byte b)) prefix_bytes ≡ true
unfolding one_byte
prefixes_invalid = refl

escape_invalid : is_invalid (one_byte 0x0f) ≡ true
unfolding one_byte
escape_invalid = refl

pub opcode_no_prefix : (b n : ℕ) (r : Row) → row_at (one_byte b) n ≡ Some r → is_prefix b ≡ false
opcode_no_prefix b n r h =
    elim (bool_cases (is_prefix b)) [
      | inl same ↦ invalid_is (one_byte b) n r (any_equal b prefix_bytes (λ p. is_invalid (one_byte p)) same prefixes_invalid) h (is_prefix b)
      | inr other ↦ other
    ]

pub opcode_no_escape : (b n : ℕ) (r : Row) → row_at (one_byte b) n ≡ Some r → (b == 0x0f) ≡ false
opcode_no_escape b n r h =
    elim (bool_cases (b == 0x0f)) [
      | inl same ↦ invalid_is (one_byte b) n r (ap (λ (k : ℕ). is_invalid (one_byte k)) (eqb-true b 0x0f same) ∙ escape_invalid) h (b == 0x0f)
      | inr other ↦ other
    ]

pub escape_no_prefix : is_prefix 0x0f ≡ false
escape_no_prefix = refl

-- ---- groups: each row has a ModRM byte, and the row of the least one has the least immediate

abbrev is_either : ModRm → Bool
is_either Without = false
is_either Either = true
is_either MemoryOnly = false

is_either_is : (m : ModRm) → is_either m ≡ true → m ≡ Either
is_either_is Without e = absurd cc
is_either_is Either e = refl
is_either_is MemoryOnly e = absurd cc

abbrev row_fits : Row → Option Row → Bool
row_fits l None = true
row_fits l (Some r) = is_either r.modrm && (nat_le (immediate_size l.immediate true) (immediate_size r.immediate true) && nat_le (immediate_size l.immediate false) (immediate_size r.immediate false))

abbrev row_or : Option Row → Row
row_or None = row op.Add Byte Without Nothing Nothing Nothing NoBytes
row_or (Some r) = r

record LeastOf (g : Group) : Type 0 where
  pub least : Row
  pub at : group_row g (reg (least_in g)) ≡ Some least
  pub barred : least.barred ≡ false
  pub modrm : least.modrm ≡ Either
  pub all : list_all (row_fits least) (group_rows g) ≡ true

least_rows : (g : Group) → LeastOf g
unfolding group_row
least_rows group.ImmediateByte = record { least = row_or (group_row group.ImmediateByte (reg (least_in group.ImmediateByte))); at = refl; barred = refl; modrm = refl; all = refl }
least_rows group.ImmediateFull = record { least = row_or (group_row group.ImmediateFull (reg (least_in group.ImmediateFull))); at = refl; barred = refl; modrm = refl; all = refl }
least_rows group.ImmediateSigned = record { least = row_or (group_row group.ImmediateSigned (reg (least_in group.ImmediateSigned))); at = refl; barred = refl; modrm = refl; all = refl }
least_rows group.Pop = record { least = row_or (group_row group.Pop (reg (least_in group.Pop))); at = refl; barred = refl; modrm = refl; all = refl }
least_rows group.ShiftByteImmediate = record { least = row_or (group_row group.ShiftByteImmediate (reg (least_in group.ShiftByteImmediate))); at = refl; barred = refl; modrm = refl; all = refl }
least_rows group.ShiftFullImmediate = record { least = row_or (group_row group.ShiftFullImmediate (reg (least_in group.ShiftFullImmediate))); at = refl; barred = refl; modrm = refl; all = refl }
least_rows group.ShiftByteOne = record { least = row_or (group_row group.ShiftByteOne (reg (least_in group.ShiftByteOne))); at = refl; barred = refl; modrm = refl; all = refl }
least_rows group.ShiftFullOne = record { least = row_or (group_row group.ShiftFullOne (reg (least_in group.ShiftFullOne))); at = refl; barred = refl; modrm = refl; all = refl }
least_rows group.ShiftByteCl = record { least = row_or (group_row group.ShiftByteCl (reg (least_in group.ShiftByteCl))); at = refl; barred = refl; modrm = refl; all = refl }
least_rows group.ShiftFullCl = record { least = row_or (group_row group.ShiftFullCl (reg (least_in group.ShiftFullCl))); at = refl; barred = refl; modrm = refl; all = refl }
least_rows group.MovByte = record { least = row_or (group_row group.MovByte (reg (least_in group.MovByte))); at = refl; barred = refl; modrm = refl; all = refl }
least_rows group.MovFull = record { least = row_or (group_row group.MovFull (reg (least_in group.MovFull))); at = refl; barred = refl; modrm = refl; all = refl }
least_rows group.UnaryByte = record { least = row_or (group_row group.UnaryByte (reg (least_in group.UnaryByte))); at = refl; barred = refl; modrm = refl; all = refl }
least_rows group.UnaryFull = record { least = row_or (group_row group.UnaryFull (reg (least_in group.UnaryFull))); at = refl; barred = refl; modrm = refl; all = refl }
least_rows group.IncDecByte = record { least = row_or (group_row group.IncDecByte (reg (least_in group.IncDecByte))); at = refl; barred = refl; modrm = refl; all = refl }
least_rows group.Indirect = record { least = row_or (group_row group.Indirect (reg (least_in group.Indirect))); at = refl; barred = refl; modrm = refl; all = refl }
least_rows group.BitTest = record { least = row_or (group_row group.BitTest (reg (least_in group.BitTest))); at = refl; barred = refl; modrm = refl; all = refl }

pub record InGroup (g : Group) (r : Row) (narrow : Bool) : Type 0 where
  pub modrm : r.modrm ≡ Either
  pub least : Row
  pub at : group_row g (reg (least_in g)) ≡ Some least
  pub least_barred : least.barred ≡ false
  pub least_modrm : least.modrm ≡ Either
  pub size : immediate_size least.immediate narrow ≤ immediate_size r.immediate narrow

fits_size : (l r : Row) (narrow : Bool) → row_fits l (Some r) ≡ true → immediate_size l.immediate narrow ≤ immediate_size r.immediate narrow
fits_size l r true h = leb-true _ _ (and_left _ _ (and_right _ _ h))
fits_size l r false h = leb-true _ _ (and_right _ _ (and_right _ _ h))

pub in_group : (g : Group) (n : ℕ) (r : Row) (narrow : Bool) → group_row g n ≡ Some r → InGroup g r narrow
unfolding group_row
in_group g n r narrow h =
    let l = least_rows g in
    let t = all_at (row_fits l.least) (group_rows g) n None refl l.all in
    let f : row_fits l.least (Some r) ≡ true = ap (row_fits l.least) (sym h) ∙ t in
    record { modrm = is_either_is r.modrm (and_left _ _ f); least = l.least; at = l.at; least_barred = l.barred; least_modrm = l.modrm; size = fits_size l.least r narrow f }

-- ---- the instructions of two opcode bytes have three bytes at least

abbrev has_more_row : Row → Bool
has_more_row r = nat_le 1 (modrm_size r.modrm + immediate_size r.immediate true) && nat_le 1 (modrm_size r.modrm + immediate_size r.immediate false)

abbrev has_more : Entry → Bool
has_more Invalid = true
has_more (One r) = has_more_row r
has_more (Many g) = true

two_bytes_have_more : list_all (λ b. has_more (two_byte b)) (range_with_len 0 256) ≡ true
unfolding two_byte
two_bytes_have_more = refl

more_row : (r : Row) (narrow : Bool) → has_more_row r ≡ true → 1 ≤ modrm_size r.modrm + immediate_size r.immediate narrow
more_row r true h = leb-true _ _ (and_left _ _ h)
more_row r false h = leb-true _ _ (and_right _ _ h)

more_at : (e : Entry) (n : ℕ) (r : Row) (narrow : Bool) → has_more e ≡ true → row_at e n ≡ Some r → 1 ≤ modrm_size r.modrm + immediate_size r.immediate narrow
more_at Invalid n r narrow h e = absurd cc
more_at (One s) n r narrow h e = subst (λ (x : Row). 1 ≤ modrm_size x.modrm + immediate_size x.immediate narrow) (some_is s r e) (more_row s narrow h)
more_at (Many g) n r narrow h e =
    let i = in_group g n r narrow e in
    omega (arith, ap modrm_size i.modrm)

pub two_byte_more : (b n : ℕ) (r : Row) (narrow : Bool) → b < 256 → row_at (two_byte b) n ≡ Some r → 1 ≤ modrm_size r.modrm + immediate_size r.immediate narrow
two_byte_more b n r narrow lt h = more_at (two_byte b) n r narrow (all_range 256 0 (λ k. has_more (two_byte k)) two_bytes_have_more b (omega arith) (omega arith)) h
