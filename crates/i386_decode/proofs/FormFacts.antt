-- The forms that are spelled are well-formed.
use Rattle.std.proofs.Common.{◌≡◌, ◌≢◌, ℕ, ◌+◌, ◌/◌, ◌%◌, ◌<◌, ◌≤◌, ◌⊎◌, inl, inr, Bool, true, false, cond, not, ◌&&◌, ◌||◌, List, [], ◌∷◌, ◌++◌, length, take, Option, Some, None, refl, sym, ap, subst, ◌∙◌, arith}
use Rattle.std.specs.Prelude.{◌==◌, nat_lt, nat_le, IfSome}
use Rattle.std.specs.List.{list_all, range_with_len}
use Rattle.std.proofs.lemmas.Bool.{ltb-true, leb-true, eqb-true}
use Rattle.std.proofs.lemmas.List.{length-append, length-take}
use Rattle.cpu_state.specs.declared.op.Op.{Op}
use Rattle.cpu_state.specs.declared.op.Op.TheVariants as op
use Rattle.cpu_state.specs.declared.width.Width.{Width}
use Rattle.cpu_state.specs.declared.width.Width.TheVariants.{W8, W32}
use Rattle.i386_decode.specs.declared.row.Size.{Size}
use Rattle.i386_decode.specs.declared.row.Size.TheVariants.{Byte, Full}
use Rattle.i386_decode.specs.declared.row.ModRm.{ModRm}
use Rattle.i386_decode.specs.declared.row.Place.{Place}
use Rattle.i386_decode.specs.declared.row.Place.TheVariants.{Nothing, RegField, RmField, Fixed, Number, Immediate, Offset}
use Rattle.i386_decode.specs.declared.row.ImmediateKind.{ImmediateKind}
use Rattle.i386_decode.specs.declared.row.ImmediateKind.TheVariants.{NoBytes, OneByte, SignedByte, TwoBytes, FullWidth, FourBytes}
use Rattle.i386_decode.specs.declared.row.Row.{Row}
use Rattle.i386_decode.specs.declared.row.Entry.{Entry}
use Rattle.i386_decode.specs.declared.row.Entry.TheVariants.{Invalid, One, Many}
use Rattle.i386_decode.specs.declared.form.Repeat.{Repeat}
use Rattle.i386_decode.specs.declared.form.Repeat.TheVariants.{Once}
use Rattle.i386_decode.specs.declared.form.Operand.{Operand}
use Rattle.i386_decode.specs.declared.form.Operand.TheVariants as operand
use Rattle.i386_decode.specs.declared.form.Form.{Form}
use Rattle.i386_decode.specs.declared.form.Decoded.{Decoded}
use Rattle.i386_decode.specs.declared.form.Decoded.TheVariants as decoded
use Rattle.i386_decode.specs.Table.{one_byte, two_byte, group_row, group_rows}
use Rattle.i386_decode.specs.Fields.{is_narrow, repeat_of, reg, rm, mode, names_register, is_memory_only, little_endian, address_of, operand_of, extended, form_of, width_of, immediate_size}
use Rattle.i386_decode.specs.Spelling.{spelling, modrm_of, sib_of, entry_of, row_at, AreBytes, Spells}
use Rattle.i386_decode.specs.WellFormed.{Kind, NoOperand, AnyRegister, RegisterZero, RegisterOrMemory, MemoryAlone, AnyNumber, NumberBelow, RegisterOrNumber, AnyOperand, BitNumber, ShiftCount, PortNumber, SourceWidth, RegisterMemoryOrNone, NumberOrNone, Fits, Widths, AnyWidth, ByteAlone, WordOrDoubleword, DoublewordAlone, HasWidth, shape_of, is_string, HasRegisters, memory_count, IsProduct, IsWellFormed, WhenForm}
use Rattle.i386_decode.specs.Reading.{decode_of}
use Rattle.i386_decode.proofs.Lists.{bytes_front, bytes_back}
use Rattle.i386_decode.proofs.BoolTests.{and_left, and_right, bool_cases, all_range, all_at}
use Rattle.i386_decode.proofs.Rules.{some_is}
use Rattle.i386_decode.proofs.FieldsRead.{sib_one}
use Rattle.i386_decode.proofs.SpellingLaws.{form_found}

-- ---- the operands

-- one more than the greatest immediate, where it has fewer bytes than its operand
abbrev bound_of : ImmediateKind → ℕ
bound_of NoBytes = 0
bound_of OneByte = 256
bound_of SignedByte = 0
bound_of TwoBytes = 65536
bound_of FullWidth = 0
bound_of FourBytes = 0

abbrev is_below : ImmediateKind → ℕ → Bool
is_below k bound = nat_le 1 (bound_of k) && nat_le (bound_of k) bound

-- whether the operand at a place is of a kind
abbrev place_fits : ImmediateKind → ModRm → Kind → Place → Bool
place_fits i mr NoOperand Nothing = true
place_fits i mr NoOperand p = false
place_fits i mr AnyRegister RegField = true
place_fits i mr AnyRegister (Fixed r) = true
place_fits i mr AnyRegister p = false
place_fits i mr RegisterZero (Fixed r) = r == 0
place_fits i mr RegisterZero p = false
place_fits i mr RegisterOrMemory RegField = true
place_fits i mr RegisterOrMemory RmField = true
place_fits i mr RegisterOrMemory (Fixed r) = true
place_fits i mr RegisterOrMemory Offset = true
place_fits i mr RegisterOrMemory p = false
place_fits i mr MemoryAlone RmField = is_memory_only mr
place_fits i mr MemoryAlone p = false
place_fits i mr AnyNumber Immediate = true
place_fits i mr AnyNumber p = false
place_fits i mr (NumberBelow b) Immediate = is_below i b
place_fits i mr (NumberBelow b) (Number n) = nat_lt n b
place_fits i mr (NumberBelow b) p = false
place_fits i mr RegisterOrNumber RegField = true
place_fits i mr RegisterOrNumber Immediate = true
place_fits i mr RegisterOrNumber p = false
place_fits i mr AnyOperand Nothing = false
place_fits i mr AnyOperand p = true
place_fits i mr BitNumber RegField = true
place_fits i mr BitNumber Immediate = is_below i 256
place_fits i mr BitNumber p = false
place_fits i mr ShiftCount (Fixed r) = r == 1
place_fits i mr ShiftCount (Number n) = nat_lt n 256
place_fits i mr ShiftCount Immediate = is_below i 256
place_fits i mr ShiftCount p = false
place_fits i mr PortNumber (Fixed r) = r == 2
place_fits i mr PortNumber Immediate = is_below i 256
place_fits i mr PortNumber p = false
place_fits i mr SourceWidth (Number n) = (n == 8) || (n == 16)
place_fits i mr SourceWidth p = false
place_fits i mr RegisterMemoryOrNone Nothing = true
place_fits i mr RegisterMemoryOrNone RmField = true
place_fits i mr RegisterMemoryOrNone p = false
place_fits i mr NumberOrNone Nothing = true
place_fits i mr NumberOrNone Immediate = true
place_fits i mr NumberOrNone p = false

below : (k : ImmediateKind) (bound i : ℕ) → is_below k bound ≡ true → (1 ≤ bound_of k → i < bound_of k) → extended k i < bound
below NoBytes bound i t h = absurd cc
below OneByte bound i t h = omega (arith, h (omega arith), leb-true 256 bound t)
below SignedByte bound i t h = absurd cc
below TwoBytes bound i t h = omega (arith, h (omega arith), leb-true 65536 bound t)
below FullWidth bound i t h = absurd cc
below FourBytes bound i t h = absurd cc

or_then : (a b : Bool) → a ≡ false → (a || b) ≡ true → b ≡ true
or_then true b e t = absurd cc
or_then false b e t = t

either_width : (n : ℕ) → ((n == 8) || (n == 16)) ≡ true → (n ≡ 8) ⊎ (n ≡ 16)
either_width n t =
    elim (bool_cases (n == 8)) [
      | inl same ↦ inl (eqb-true n 8 same)
      | inr other ↦ inr (eqb-true n 16 (or_then (n == 8) (n == 16) other t))
    ]

abbrev rm_operand : Bool → ℕ → ℕ → ℕ → Operand
rm_operand a m s d = cond a (operand.Register (rm m)) (operand.Memory (address_of m s d))

rm_fits : (k : Kind) (a : Bool) (m s d : ℕ) → Fits k (operand.Register (rm m)) → Fits k (operand.Memory (address_of m s d)) → Fits k (rm_operand a m s d)
rm_fits k true m s d f g = f
rm_fits k false m s d f g = g

rm_memory : (x a : Bool) (m s d : ℕ) → x ≡ true → (x && a) ≡ false → Fits MemoryAlone (rm_operand a m s d)
rm_memory true true m s d t h = absurd cc
rm_memory true false m s d t h = tt
rm_memory false a m s d t h = absurd cc

module _ (ik : ImmediateKind) (mr : ModRm) (m s d i : ℕ) (bounds : 1 ≤ bound_of ik → i < bound_of ik) (memory : (is_memory_only mr && names_register m) ≡ false) where
  kind_fits : (k : Kind) (p : Place) → place_fits ik mr k p ≡ true → Fits k (operand_of p m s d (extended ik i))
  kind_fits NoOperand Nothing t = tt
  kind_fits NoOperand p t = absurd cc
  kind_fits AnyRegister RegField t = tt
  kind_fits AnyRegister (Fixed r) t = tt
  kind_fits AnyRegister p t = absurd cc
  kind_fits RegisterZero (Fixed r) t = eqb-true r 0 t
  kind_fits RegisterZero p t = absurd cc
  kind_fits RegisterOrMemory RegField t = tt
  kind_fits RegisterOrMemory RmField t = rm_fits RegisterOrMemory (names_register m) m s d tt tt
  kind_fits RegisterOrMemory (Fixed r) t = tt
  kind_fits RegisterOrMemory Offset t = tt
  kind_fits RegisterOrMemory p t = absurd cc
  kind_fits MemoryAlone RmField t = rm_memory (is_memory_only mr) (names_register m) m s d t memory
  kind_fits MemoryAlone p t = absurd cc
  kind_fits AnyNumber Immediate t = tt
  kind_fits AnyNumber p t = absurd cc
  kind_fits (NumberBelow b) Immediate t = below ik b i t bounds
  kind_fits (NumberBelow b) (Number n) t = ltb-true n b t
  kind_fits (NumberBelow b) p t = absurd cc
  kind_fits RegisterOrNumber RegField t = tt
  kind_fits RegisterOrNumber Immediate t = tt
  kind_fits RegisterOrNumber p t = absurd cc
  kind_fits AnyOperand Nothing t = absurd cc
  kind_fits AnyOperand RegField t = tt
  kind_fits AnyOperand RmField t = rm_fits AnyOperand (names_register m) m s d tt tt
  kind_fits AnyOperand (Fixed r) t = tt
  kind_fits AnyOperand (Number n) t = tt
  kind_fits AnyOperand Immediate t = tt
  kind_fits AnyOperand Offset t = tt
  kind_fits BitNumber RegField t = tt
  kind_fits BitNumber Immediate t = below ik 256 i t bounds
  kind_fits BitNumber p t = absurd cc
  kind_fits ShiftCount (Fixed r) t = eqb-true r 1 t
  kind_fits ShiftCount (Number n) t = ltb-true n 256 t
  kind_fits ShiftCount Immediate t = below ik 256 i t bounds
  kind_fits ShiftCount p t = absurd cc
  kind_fits PortNumber (Fixed r) t = eqb-true r 2 t
  kind_fits PortNumber Immediate t = below ik 256 i t bounds
  kind_fits PortNumber p t = absurd cc
  kind_fits SourceWidth (Number n) t = either_width n t
  kind_fits SourceWidth p t = absurd cc
  kind_fits RegisterMemoryOrNone Nothing t = tt
  kind_fits RegisterMemoryOrNone RmField t = rm_fits RegisterMemoryOrNone (names_register m) m s d tt tt
  kind_fits RegisterMemoryOrNone p t = absurd cc
  kind_fits NumberOrNone Nothing t = tt
  kind_fits NumberOrNone Immediate t = tt
  kind_fits NumberOrNone p t = absurd cc

-- ---- the registers

abbrev names_few : Place → Bool
names_few Nothing = true
names_few RegField = true
names_few RmField = true
names_few (Fixed r) = nat_lt r 8
names_few (Number n) = true
names_few Immediate = true
names_few Offset = true

base_choice : (a b : Bool) (x y : ℕ) → x < 8 → y < 8 → (c : Bool) → IfSome (cond a (cond b None (Some x)) (cond c None (Some y))) (λ r. r < 8)
base_choice true true x y h k c = tt
base_choice true false x y h k c = h
base_choice false b x y h k true = tt
base_choice false b x y h k false = k

index_choice : (a : Bool) (x y : ℕ) → x < 8 → y < 4 → IfSome (cond a (Some (x, y)) None) (λ (p : ℕ × ℕ). (p.0 < 8) × (p.1 < 4))
index_choice true x y h k = (h, k)
index_choice false x y h k = tt

rm_registers : (a : Bool) (m s d : ℕ) → s < 256 → HasRegisters (rm_operand a m s d)
rm_registers true m s d h = omega arith
rm_registers false m s d h = (base_choice (rm m == 4) ((s % 8 == 5) && (mode m == 0)) (s % 8) (rm m) (omega arith) (omega arith) ((rm m == 5) && (mode m == 0)), index_choice ((rm m == 4) && not ((s / 8) % 8 == 4)) ((s / 8) % 8) (s / 64) (omega arith) (omega arith))

registers_fit : (p : Place) (m s d i : ℕ) → names_few p ≡ true → s < 256 → HasRegisters (operand_of p m s d i)
registers_fit Nothing m s d i t h = tt
registers_fit RegField m s d i t h = omega arith
registers_fit RmField m s d i t h = rm_registers (names_register m) m s d h
registers_fit (Fixed r) m s d i t h = ltb-true r 8 t
registers_fit (Number n) m s d i t h = tt
registers_fit Immediate m s d i t h = tt
registers_fit Offset m s d i t h = (tt, tt)

-- ---- at most one operand of memory

abbrev memory_places : Place → ℕ
memory_places Nothing = 0
memory_places RegField = 0
memory_places RmField = 1
memory_places (Fixed r) = 0
memory_places (Number n) = 0
memory_places Immediate = 0
memory_places Offset = 1

rm_count : (a : Bool) (m s d : ℕ) → memory_count (rm_operand a m s d) ≤ 1
rm_count true m s d = omega arith
rm_count false m s d = omega arith

memory_le : (p : Place) (m s d i : ℕ) → memory_count (operand_of p m s d i) ≤ memory_places p
memory_le Nothing m s d i = omega arith
memory_le RegField m s d i = omega arith
memory_le RmField m s d i = rm_count (names_register m) m s d
memory_le (Fixed r) m s d i = omega arith
memory_le (Number n) m s d i = omega arith
memory_le Immediate m s d i = omega arith
memory_le Offset m s d i = omega arith

-- ---- the width

abbrev size_fits : Widths → Size → Bool → Bool
size_fits AnyWidth s barred = true
size_fits ByteAlone Byte barred = true
size_fits ByteAlone Full barred = false
size_fits WordOrDoubleword Byte barred = false
size_fits WordOrDoubleword Full barred = true
size_fits DoublewordAlone Byte barred = false
size_fits DoublewordAlone Full barred = barred

full_wide : (narrow : Bool) → width_of Full narrow ≢ W8
full_wide true = λ e. cc
full_wide false = λ e. cc

full_barred : (barred narrow : Bool) → barred ≡ true → (barred && narrow) ≡ false → width_of Full narrow ≡ W32
full_barred true true t h = absurd cc
full_barred true false t h = refl
full_barred false narrow t h = absurd cc

width_fits : (w : Widths) (s : Size) (barred narrow : Bool) → size_fits w s barred ≡ true → (barred && narrow) ≡ false → HasWidth w (width_of s narrow)
width_fits AnyWidth s barred narrow t h = tt
width_fits ByteAlone Byte barred narrow t h = refl
width_fits ByteAlone Full barred narrow t h = absurd cc
width_fits WordOrDoubleword Byte barred narrow t h = absurd cc
width_fits WordOrDoubleword Full barred narrow t h = full_wide narrow
width_fits DoublewordAlone Byte barred narrow t h = absurd cc
width_fits DoublewordAlone Full barred narrow t h = full_barred barred narrow t h

-- ---- IMUL

abbrev is_full : Size → Bool
is_full Byte = false
is_full Full = true

abbrev is_reg_field : Place → Bool
is_reg_field RegField = true
is_reg_field p = false

abbrev is_nothing : Place → Bool
is_nothing Nothing = true
is_nothing p = false

-- IMUL's places are r/m alone, or the reg field, the r/m field and what follows
abbrev product_fits : Size → Place → Place → Place → Bool
product_fits s first Nothing third = is_nothing third
product_fits s first RmField third = is_full s && is_reg_field first
product_fits s first p third = false

product_full : (s : Size) (narrow : Bool) (first : Place) (o c : Operand) (m sib d i : ℕ) → (is_full s && is_reg_field first) ≡ true → (width_of s narrow ≢ W8) × Fits AnyRegister (operand_of first m sib d i)
product_full Byte narrow first o c m sib d i t = absurd cc
product_full Full narrow Nothing o c m sib d i t = absurd cc
product_full Full narrow RegField o c m sib d i t = (full_wide narrow, tt)
product_full Full narrow RmField o c m sib d i t = absurd cc
product_full Full narrow (Fixed r) o c m sib d i t = absurd cc
product_full Full narrow (Number n) o c m sib d i t = absurd cc
product_full Full narrow Immediate o c m sib d i t = absurd cc
product_full Full narrow Offset o c m sib d i t = absurd cc

rm_product : (a : Bool) (w : Width) (first third : Operand) (m s d : ℕ) → (w ≢ W8) × Fits AnyRegister first → IsProduct w first (rm_operand a m s d) third
rm_product true w first third m s d h = h
rm_product false w first third m s d h = h

nothing_absent : (p : Place) (m s d i : ℕ) → is_nothing p ≡ true → operand_of p m s d i ≡ operand.Absent
nothing_absent Nothing m s d i t = refl
nothing_absent p m s d i t = absurd cc

product_is : (s : Size) (narrow : Bool) (a b c : Place) (m sib d i : ℕ) → product_fits s a b c ≡ true → IsProduct (width_of s narrow) (operand_of a m sib d i) (operand_of b m sib d i) (operand_of c m sib d i)
product_is s narrow a Nothing c m sib d i t = nothing_absent c m sib d i t
product_is s narrow a RmField c m sib d i t = rm_product (names_register m) (width_of s narrow) (operand_of a m sib d i) (operand_of c m sib d i) m sib d (product_full s narrow a operand.Absent operand.Absent m sib d i t)
product_is s narrow a p c m sib d i t = absurd cc

abbrev is_imul : Op → Bool
is_imul op.Imul = true
is_imul o = false

imul_is : (o : Op) → o ≡ op.Imul → is_imul o ≡ true
imul_is o e = ap is_imul e

-- ---- the rows

abbrev width_test : Row → Bool
width_test r = size_fits (shape_of r.op).widths r.size r.barred

abbrev first_test : Row → Bool
first_test r = place_fits r.immediate r.modrm (shape_of r.op).first r.first

abbrev second_test : Row → Bool
second_test r = place_fits r.immediate r.modrm (shape_of r.op).second r.second

abbrev third_test : Row → Bool
third_test r = place_fits r.immediate r.modrm (shape_of r.op).third r.third

abbrev first_few : Row → Bool
first_few r = names_few r.first

abbrev second_few : Row → Bool
second_few r = names_few r.second

abbrev third_few : Row → Bool
third_few r = names_few r.third

abbrev memory_test : Row → Bool
memory_test r = nat_le (memory_places r.first + memory_places r.second + memory_places r.third) 1

abbrev product_test : Row → Bool
product_test r = not (is_imul r.op) || product_fits r.size r.first r.second r.third

abbrev string_test : Row → Bool
string_test r = not r.string || is_string r.op

abbrev row_test : Row → Bool
row_test r = width_test r && (first_test r && (second_test r && (third_test r && (first_few r && (second_few r && (third_few r && (memory_test r && (product_test r && (string_test r)))))))))

-- each of the tests is passed
record Passes (a b c d e f g h i j : Bool) : Type 0 where
  pub width : a ≡ true
  pub first : b ≡ true
  pub second : c ≡ true
  pub third : d ≡ true
  pub first_names : e ≡ true
  pub second_names : f ≡ true
  pub third_names : g ≡ true
  pub memory : h ≡ true
  pub product : i ≡ true
  pub string : j ≡ true

passes : (a b c d e f g h i j : Bool) → (a && (b && (c && (d && (e && (f && (g && (h && (i && (j)))))))))) ≡ true → Passes a b c d e f g h i j
passes a b c d e f g h i j t0 =
    let t1 = and_right a (b && (c && (d && (e && (f && (g && (h && (i && (j))))))))) t0 in
    let t2 = and_right b (c && (d && (e && (f && (g && (h && (i && (j)))))))) t1 in
    let t3 = and_right c (d && (e && (f && (g && (h && (i && (j))))))) t2 in
    let t4 = and_right d (e && (f && (g && (h && (i && (j)))))) t3 in
    let t5 = and_right e (f && (g && (h && (i && (j))))) t4 in
    let t6 = and_right f (g && (h && (i && (j)))) t5 in
    let t7 = and_right g (h && (i && (j))) t6 in
    let t8 = and_right h (i && (j)) t7 in
    let t9 = and_right i (j) t8 in
    record {
      width = and_left a (b && (c && (d && (e && (f && (g && (h && (i && (j))))))))) t0;
      first = and_left b (c && (d && (e && (f && (g && (h && (i && (j)))))))) t1;
      second = and_left c (d && (e && (f && (g && (h && (i && (j))))))) t2;
      third = and_left d (e && (f && (g && (h && (i && (j)))))) t3;
      first_names = and_left e (f && (g && (h && (i && (j))))) t4;
      second_names = and_left f (g && (h && (i && (j)))) t5;
      third_names = and_left g (h && (i && (j))) t6;
      memory = and_left h (i && (j)) t7;
      product = and_left i (j) t8;
      string = t9;
    }

abbrev option_test : Option Row → Bool
option_test None = true
option_test (Some r) = row_test r

abbrev entry_test : Entry → Bool
entry_test Invalid = true
entry_test (One r) = row_test r
entry_test (Many g) = list_all option_test (group_rows g)

one_test : list_all (λ b. entry_test (one_byte b)) (range_with_len 0 256) ≡ true
unfolding one_byte
one_test = refl

two_test : list_all (λ b. entry_test (two_byte b)) (range_with_len 0 256) ≡ true
unfolding two_byte
two_test = refl

row_tested : (e : Entry) (n : ℕ) (r : Row) → entry_test e ≡ true → row_at e n ≡ Some r → row_test r ≡ true
unfolding group_row
row_tested Invalid n r t h = absurd cc
row_tested (One s) n r t h = ap row_test (sym (some_is s r h)) ∙ t
row_tested (Many g) n r t h = ap option_test (sym h) ∙ all_at option_test (group_rows g) n None refl t

cond_test : (b : Bool) (e : Entry) → entry_test e ≡ true → entry_test (cond b e Invalid) ≡ true
cond_test true e t = t
cond_test false e t = refl

entry_tested : (ops : List ℕ) → AreBytes ops → entry_test (entry_of ops) ≡ true
unfolding entry_of
entry_tested [] fits = refl
entry_tested (b ∷ []) fits = all_range 256 0 (λ k. entry_test (one_byte k)) one_test b (omega arith) (omega (arith, fits 0))
entry_tested (b ∷ c ∷ []) fits = cond_test (b == 0x0f) (two_byte c) (all_range 256 0 (λ k. entry_test (two_byte k)) two_test c (omega arith) (omega (arith, fits 1)))
entry_tested (b ∷ c ∷ d ∷ ops) fits = refl

-- ---- the form

not_or : (a b : Bool) → a ≡ true → (not a || b) ≡ true → b ≡ true
not_or true b e t = t
not_or false b e t = absurd cc

repeat_once : (string : Bool) (o : Op) (r : Repeat) → (not string || is_string o) ≡ true → is_string o ≡ false → cond string r Once ≡ Once
repeat_once true o r t h = absurd cc
repeat_once false o r t h = refl

form_fits : (row : Row) (narrow : Bool) (repeat : Repeat) (m s d i : ℕ) → row_test row ≡ true → s < 256
    → (1 ≤ bound_of row.immediate → i < bound_of row.immediate) → (is_memory_only row.modrm && names_register m) ≡ false → (row.barred && narrow) ≡ false
    → IsWellFormed (form_of row narrow repeat m s d i)
unfolding form_of
form_fits row narrow repeat m s d i t h bounds memory open_row =
    let is = passes (width_test row) (first_test row) (second_test row) (third_test row) (first_few row) (second_few row) (third_few row) (memory_test row) (product_test row) (string_test row) t in
    let n : ℕ = extended row.immediate i in
    record {
      width = width_fits (shape_of row.op).widths row.size row.barred narrow is.width open_row;
      first = kind_fits row.immediate row.modrm m s d i bounds memory (shape_of row.op).first row.first is.first;
      second = kind_fits row.immediate row.modrm m s d i bounds memory (shape_of row.op).second row.second is.second;
      third = kind_fits row.immediate row.modrm m s d i bounds memory (shape_of row.op).third row.third is.third;
      first_registers = registers_fit row.first m s d n is.first_names h;
      second_registers = registers_fit row.second m s d n is.second_names h;
      third_registers = registers_fit row.third m s d n is.third_names h;
      one_memory = omega (arith, memory_le row.first m s d n, memory_le row.second m s d n, memory_le row.third m s d n, leb-true (memory_places row.first + memory_places row.second + memory_places row.third) 1 is.memory);
      product = λ e. product_is row.size narrow row.first row.second row.third m s d n (not_or (is_imul row.op) (product_fits row.size row.first row.second row.third) (imul_is row.op e) is.product);
      once = λ e. repeat_once row.string row.op repeat is.string e;
    }

-- ---- the bytes

one_byte_fits : (s : List ℕ) → AreBytes s → length s ≤ 1 → little_endian s < 256
one_byte_fits [] fits h = omega arith
one_byte_fits (b ∷ []) fits h = omega (arith, fits 0)
one_byte_fits (b ∷ c ∷ s) fits h = absurd (omega arith)

two_bytes_fit : (s : List ℕ) → AreBytes s → length s ≤ 2 → little_endian s < 65536
two_bytes_fit [] fits h = omega arith
two_bytes_fit (b ∷ []) fits h = omega (arith, fits 0)
two_bytes_fit (b ∷ c ∷ []) fits h = omega (arith, fits 0, fits 1)
two_bytes_fit (b ∷ c ∷ d ∷ s) fits h = absurd (omega arith)

immediate_fits : (k : ImmediateKind) (narrow : Bool) (s : List ℕ) → AreBytes s → length s ≡ immediate_size k narrow → 1 ≤ bound_of k → little_endian s < bound_of k
immediate_fits NoBytes narrow s fits e h = absurd (omega arith)
immediate_fits OneByte narrow s fits e h = one_byte_fits s fits (omega arith)
immediate_fits SignedByte narrow s fits e h = absurd (omega arith)
immediate_fits TwoBytes narrow s fits e h = two_bytes_fit s fits (omega arith)
immediate_fits FullWidth narrow s fits e h = absurd (omega arith)
immediate_fits FourBytes narrow s fits e h = absurd (omega arith)

pub well_formed : (s : List ℕ) (f : Form) → Spells s f → IsWellFormed f
well_formed s f h =
    let p = h.parts in
    let fits : AreBytes (spelling p) = subst AreBytes h.spelled h.bytes in
    let tail : AreBytes (p.sib ++ (p.displacement ++ p.immediate)) = bytes_back p.modrm _ (bytes_back p.opcode _ (bytes_back p.prefixes _ fits)) in
    let t = row_tested (entry_of p.opcode) (reg (modrm_of p)) h.row (entry_tested p.opcode (bytes_front p.opcode _ (bytes_back p.prefixes _ fits))) h.instruction.opcode in
    subst IsWellFormed (sym h.form)
    (form_fits h.row (is_narrow p.prefixes) (repeat_of p.prefixes) (modrm_of p) (sib_of p) (little_endian p.displacement) (little_endian p.immediate) t
    (one_byte_fits p.sib (bytes_front p.sib _ tail) (subst (λ (k : ℕ). k ≤ 1) (sym h.instruction.sib) (sib_one (modrm_of p))))
    (immediate_fits h.row.immediate (is_narrow p.prefixes) p.immediate (bytes_back p.displacement _ (bytes_back p.sib _ tail)) h.instruction.immediate)
    h.instruction.memory h.instruction.operand_size)

no_opcode : (n : ℕ) (r : Row) → row_at (entry_of []) n ≡ Some r → ⊥
unfolding entry_of
no_opcode n r e = cc

opcode_some : (ops : List ℕ) (n : ℕ) (r : Row) → row_at (entry_of ops) n ≡ Some r → 1 ≤ length ops
opcode_some [] n r e = absurd (no_opcode n r e)
opcode_some (b ∷ ops) n r e = omega arith

pub sizes : (s : List ℕ) (f : Form) → Spells s f → (1 ≤ length s) × (length s ≤ 15)
sizes s f h =
    let p = h.parts in (
      omega (arith, ap length h.spelled, opcode_some p.opcode (reg (modrm_of p)) h.row h.instruction.opcode, length-append p.prefixes (p.opcode ++ (p.modrm ++ (p.sib ++ (p.displacement ++ p.immediate)))), length-append p.opcode (p.modrm ++ (p.sib ++ (p.displacement ++ p.immediate)))),
      h.size,
    )

-- ---- what decode answers

module _ (bytes : List ℕ) (fits : AreBytes bytes) where
  pub well_formed_at : (d : Decoded) → decode_of bytes ≡ d → WhenForm d (λ form size. IsWellFormed form)
  well_formed_at (decoded.Form f n) e = well_formed (take n bytes) f (form_found bytes fits f n e).1
  well_formed_at decoded.Undefined e = tt
  well_formed_at decoded.Short e = tt

  pub some_at : (d : Decoded) → decode_of bytes ≡ d → WhenForm d (λ form size. 1 ≤ size)
  some_at (decoded.Form f n) e = let b = form_found bytes fits f n e in omega (arith, b.0, length-take n bytes, (sizes (take n bytes) f b.1).0)
  some_at decoded.Undefined e = tt
  some_at decoded.Short e = tt

  pub limit_at : (d : Decoded) → decode_of bytes ≡ d → WhenForm d (λ form size. size ≤ 15)
  limit_at (decoded.Form f n) e = let b = form_found bytes fits f n e in omega (arith, b.0, length-take n bytes, (sizes (take n bytes) f b.1).1)
  limit_at decoded.Undefined e = tt
  limit_at decoded.Short e = tt

  pub within_at : (d : Decoded) → decode_of bytes ≡ d → WhenForm d (λ form size. size ≤ length bytes)
  within_at (decoded.Form f n) e = (form_found bytes fits f n e).0
  within_at decoded.Undefined e = tt
  within_at decoded.Short e = tt
