-- The tables of the code are those of the specification, at each opcode.
use Rattle.std.proofs.Common.{◌≡◌, ℕ, ◌<◌, Bool, List, get_or, Option, refl, ap, ◌∙◌, arith}
use Rattle.std.specs.Prelude.{map}
use Rattle.std.specs.List.{range_with_len}
use Rattle.std.proofs.lemmas.List.FromFn.{get_or-map-range_with_len}
use Rattle.i386_decode.specs.declared.row.Row.{Row}
use Rattle.i386_decode.specs.declared.row.Entry.{Entry}
use Rattle.i386_decode.specs.declared.row.Group.{Group}
use Rattle.i386_decode.specs.declared.row.Group.TheVariants as group
use Rattle.i386_decode.specs.declared.opcodes.TheConstants.{ONE_BYTE, TWO_BYTE}
use Rattle.i386_decode.specs.declared.groups.TheConstants.{IMMEDIATE_BYTE, IMMEDIATE_FULL, IMMEDIATE_SIGNED, POP, SHIFT_BYTE_IMMEDIATE, SHIFT_FULL_IMMEDIATE, SHIFT_BYTE_ONE, SHIFT_FULL_ONE, SHIFT_BYTE_CL, SHIFT_FULL_CL, MOV_BYTE, MOV_FULL, UNARY_BYTE, UNARY_FULL, INC_DEC_BYTE, INDIRECT, BIT_TEST}
use Rattle.i386_decode.specs.declared.prefix_table.TheConstants.{IS_PREFIX}
use Rattle.i386_decode.specs.Fields.{is_prefix}
use Rattle.i386_decode.specs.Table.{one_byte, two_byte, group_row}

-- an entry of a list that is computed from a function
entry_at : {X : Type 0} (xs : List X) (f : ℕ → X) (n : ℕ) (d : X) → xs ≡ map f (range_with_len 0 n) → (i : ℕ) → i < n → get_or xs i d ≡ f i
entry_at {X = X} xs f n d e i h = ap (λ (ys : List X). get_or ys i d) e ∙ get_or-map-range_with_len f 0 n i i d h (omega arith)

one_byte_table : ONE_BYTE ≡ map one_byte (range_with_len 0 256)
unfolding one_byte
one_byte_table = refl

two_byte_table : TWO_BYTE ≡ map two_byte (range_with_len 0 256)
unfolding two_byte
two_byte_table = refl

pub one_byte_at : (i : ℕ) (d : Entry) → i < 256 → get_or ONE_BYTE i d ≡ one_byte i
one_byte_at i d h = entry_at ONE_BYTE one_byte 256 d one_byte_table i h

pub two_byte_at : (i : ℕ) (d : Entry) → i < 256 → get_or TWO_BYTE i d ≡ two_byte i
two_byte_at i d h = entry_at TWO_BYTE two_byte 256 d two_byte_table i h

group_table : (g : Group) (xs : List (Option Row)) → xs ≡ map (group_row g) (range_with_len 0 8) → (i : ℕ) (d : Option Row) → i < 8 → get_or xs i d ≡ group_row g i
group_table g xs e i d h = entry_at xs (group_row g) 8 d e i h

pub immediate_byte_at : (i : ℕ) (d : Option Row) → i < 8 → get_or IMMEDIATE_BYTE i d ≡ group_row group.ImmediateByte i
unfolding group_row
immediate_byte_at = group_table group.ImmediateByte IMMEDIATE_BYTE refl

pub immediate_full_at : (i : ℕ) (d : Option Row) → i < 8 → get_or IMMEDIATE_FULL i d ≡ group_row group.ImmediateFull i
unfolding group_row
immediate_full_at = group_table group.ImmediateFull IMMEDIATE_FULL refl

pub immediate_signed_at : (i : ℕ) (d : Option Row) → i < 8 → get_or IMMEDIATE_SIGNED i d ≡ group_row group.ImmediateSigned i
unfolding group_row
immediate_signed_at = group_table group.ImmediateSigned IMMEDIATE_SIGNED refl

pub pop_at : (i : ℕ) (d : Option Row) → i < 8 → get_or POP i d ≡ group_row group.Pop i
unfolding group_row
pop_at = group_table group.Pop POP refl

pub shift_byte_immediate_at : (i : ℕ) (d : Option Row) → i < 8 → get_or SHIFT_BYTE_IMMEDIATE i d ≡ group_row group.ShiftByteImmediate i
unfolding group_row
shift_byte_immediate_at = group_table group.ShiftByteImmediate SHIFT_BYTE_IMMEDIATE refl

pub shift_full_immediate_at : (i : ℕ) (d : Option Row) → i < 8 → get_or SHIFT_FULL_IMMEDIATE i d ≡ group_row group.ShiftFullImmediate i
unfolding group_row
shift_full_immediate_at = group_table group.ShiftFullImmediate SHIFT_FULL_IMMEDIATE refl

pub shift_byte_one_at : (i : ℕ) (d : Option Row) → i < 8 → get_or SHIFT_BYTE_ONE i d ≡ group_row group.ShiftByteOne i
unfolding group_row
shift_byte_one_at = group_table group.ShiftByteOne SHIFT_BYTE_ONE refl

pub shift_full_one_at : (i : ℕ) (d : Option Row) → i < 8 → get_or SHIFT_FULL_ONE i d ≡ group_row group.ShiftFullOne i
unfolding group_row
shift_full_one_at = group_table group.ShiftFullOne SHIFT_FULL_ONE refl

pub shift_byte_cl_at : (i : ℕ) (d : Option Row) → i < 8 → get_or SHIFT_BYTE_CL i d ≡ group_row group.ShiftByteCl i
unfolding group_row
shift_byte_cl_at = group_table group.ShiftByteCl SHIFT_BYTE_CL refl

pub shift_full_cl_at : (i : ℕ) (d : Option Row) → i < 8 → get_or SHIFT_FULL_CL i d ≡ group_row group.ShiftFullCl i
unfolding group_row
shift_full_cl_at = group_table group.ShiftFullCl SHIFT_FULL_CL refl

pub mov_byte_at : (i : ℕ) (d : Option Row) → i < 8 → get_or MOV_BYTE i d ≡ group_row group.MovByte i
unfolding group_row
mov_byte_at = group_table group.MovByte MOV_BYTE refl

pub mov_full_at : (i : ℕ) (d : Option Row) → i < 8 → get_or MOV_FULL i d ≡ group_row group.MovFull i
unfolding group_row
mov_full_at = group_table group.MovFull MOV_FULL refl

pub unary_byte_at : (i : ℕ) (d : Option Row) → i < 8 → get_or UNARY_BYTE i d ≡ group_row group.UnaryByte i
unfolding group_row
unary_byte_at = group_table group.UnaryByte UNARY_BYTE refl

pub unary_full_at : (i : ℕ) (d : Option Row) → i < 8 → get_or UNARY_FULL i d ≡ group_row group.UnaryFull i
unfolding group_row
unary_full_at = group_table group.UnaryFull UNARY_FULL refl

pub inc_dec_byte_at : (i : ℕ) (d : Option Row) → i < 8 → get_or INC_DEC_BYTE i d ≡ group_row group.IncDecByte i
unfolding group_row
inc_dec_byte_at = group_table group.IncDecByte INC_DEC_BYTE refl

pub indirect_at : (i : ℕ) (d : Option Row) → i < 8 → get_or INDIRECT i d ≡ group_row group.Indirect i
unfolding group_row
indirect_at = group_table group.Indirect INDIRECT refl

pub bit_test_at : (i : ℕ) (d : Option Row) → i < 8 → get_or BIT_TEST i d ≡ group_row group.BitTest i
unfolding group_row
bit_test_at = group_table group.BitTest BIT_TEST refl

prefix_table : IS_PREFIX ≡ map is_prefix (range_with_len 0 256)
prefix_table = refl

pub prefix_at : (i : ℕ) (d : Bool) → i < 256 → get_or IS_PREFIX i d ≡ is_prefix i
prefix_at i d h = entry_at IS_PREFIX is_prefix 256 d prefix_table i h
