-- What stands behind the opcode: what is read is what is spelled.
use Rattle.std.proofs.Common.{◌≡◌, ℕ, suc, ◌+◌, ◌<◌, ◌≤◌, Bool, true, false, cond, ◌&&◌, List, [], ◌∷◌, ◌++◌, length, get_or, drop, Option, Some, None, refl, sym, ap, subst, ◌∙◌, arith}
use Rattle.i386_decode.specs.declared.row.ModRm.{ModRm}
use Rattle.i386_decode.specs.declared.row.ModRm.TheVariants.{Without, Either, MemoryOnly}
use Rattle.i386_decode.specs.declared.row.Row.{Row}
use Rattle.i386_decode.specs.declared.row.Group.{Group}
use Rattle.i386_decode.specs.declared.row.Group.TheVariants as group
use Rattle.i386_decode.specs.declared.row.Entry.{Entry}
use Rattle.i386_decode.specs.declared.row.Entry.TheVariants.{Invalid, One, Many}
use Rattle.i386_decode.specs.declared.form.Repeat.{Repeat}
use Rattle.i386_decode.specs.declared.form.Form.{Form}
use Rattle.i386_decode.specs.declared.form.Decoded.{Decoded}
use Rattle.i386_decode.specs.declared.form.Decoded.TheVariants as decoded
use Rattle.i386_decode.specs.Fields.{reg, no_modrm, modrm_size, is_memory_only, names_register, sib_size, displacement_size, immediate_size, little_endian, form_of}
use Rattle.i386_decode.specs.Spelling.{row_at}
use Rattle.i386_decode.specs.Reading.{number, finish, fields_at, least_of, least_in, least_modrm, modrm_or, is_refused, row_read, entry_read}
use Rattle.i386_decode.proofs.Lists.{Agrees, length_filled}
use Rattle.i386_decode.proofs.BoolTests.{or_neither}
use Rattle.i386_decode.proofs.Rules.{in_group, some_is}
use Rattle.i386_decode.proofs.FieldsRead.{AreFields, sib_read, displacement_read, immediate_read, fields_size, fields_least, fields_whole}

-- What is read has size bytes at most, and where there are need bytes it has size bytes and is the form f.
pub record Finds (d : Decoded) (size len need have : ℕ) (f : Form) : Type 0 where
  pub total : ℕ
  pub form : Form
  pub is : d ≡ finish total len form
  pub least : total ≤ size
  pub size_is : need ≤ have → total ≡ size
  pub form_is : need ≤ have → form ≡ f

-- ---- the fields

le_then : (a b c : ℕ) → a ≤ b → b ≤ c → a ≤ c
le_then a b c h k = omega arith

regroup_le : (u a b c t : ℕ) → a + b + c ≤ t → u + a + b + c ≤ u + t
regroup_le u a b c t h = omega arith

pub regroup : (u a b c x y z : ℕ) → a ≡ x → b ≡ y → c ≡ z → u + a + b + c ≡ u + (x + y + z)
regroup u a b c x y z e f g = omega arith

size_of : (row : Row) (narrow : Bool) (used m : ℕ) (xs ys zs bs : List ℕ) → (sib_read m bs ≡ xs) × (displacement_read m bs ≡ ys) × (immediate_read row narrow m bs ≡ zs) → used + sib_size m + displacement_size m (number (sib_size m) bs) + immediate_size row.immediate narrow ≡ used + (length xs + length ys + length zs)
size_of row narrow used m xs ys zs bs w = regroup used (sib_size m) (displacement_size m (number (sib_size m) bs)) (immediate_size row.immediate narrow) (length xs) (length ys) (length zs)
    (sym (length_filled _ _) ∙ ap length w.0) (sym (length_filled _ _) ∙ ap length w.1) (sym (length_filled _ _) ∙ ap length w.2)

fields_complete : (row : Row) (narrow : Bool) (repeat : Repeat) (used len m : ℕ) (xs ys zs bs : List ℕ) → AreFields row narrow m xs ys zs → Agrees (xs ++ (ys ++ zs)) bs
    → Finds (fields_at row narrow repeat used len m bs) (used + (length xs + length ys + length zs)) len (length xs + length ys + length zs) (length bs) (form_of row narrow repeat m (little_endian xs) (little_endian ys) (little_endian zs))
unfolding fields_at
fields_complete row narrow repeat used len m xs ys zs bs h a = record {
  total = used + sib_size m + displacement_size m (number (sib_size m) bs) + immediate_size row.immediate narrow;
  form = form_of row narrow repeat m (little_endian (sib_read m bs)) (little_endian (displacement_read m bs)) (little_endian (immediate_read row narrow m bs));
  is = refl;
  least = regroup_le used (sib_size m) (displacement_size m (number (sib_size m) bs)) (immediate_size row.immediate narrow) (length xs + length ys + length zs) (fields_least row narrow m xs ys zs bs h a);
  size_is = λ enough. size_of row narrow used m xs ys zs bs (fields_whole row narrow m xs ys zs bs h a enough);
  form_is = λ enough. let w = fields_whole row narrow m xs ys zs bs h a enough in
      ap (λ (s : List ℕ). form_of row narrow repeat m (little_endian s) (little_endian (displacement_read m bs)) (little_endian (immediate_read row narrow m bs))) w.0
      ∙ ap (λ (s : List ℕ). form_of row narrow repeat m (little_endian xs) (little_endian s) (little_endian (immediate_read row narrow m bs))) w.1
      ∙ ap (λ (s : List ℕ). form_of row narrow repeat m (little_endian xs) (little_endian ys) (little_endian s)) w.2;
}

-- ---- the row

pub row_read_is : (o : Option Row) (row : Row) (narrow : Bool) (repeat : Repeat) (used len m size : ℕ) (bs : List ℕ) → o ≡ Some row → is_refused row narrow m ≡ false → modrm_size row.modrm ≡ size → row_read o narrow repeat used len m bs ≡ fields_at row narrow repeat (used + size) len m (drop size bs)
row_read_is o row narrow repeat used len m size bs e r s =
    ap (λ (p : Option Row). row_read p narrow repeat used len m bs) e
    ∙ ap (λ (b : Bool). cond b decoded.Undefined (fields_at row narrow repeat (used + modrm_size row.modrm) len m (drop (modrm_size row.modrm) bs))) r
    ∙ ap (λ (k : ℕ). fields_at row narrow repeat (used + k) len m (drop k bs)) s

-- ---- the ModRM byte

least_of_none : (r : Row) → modrm_size r.modrm ≡ 0 → least_of r ≡ None
least_of_none r h = rw h refl

least_of_some : (r : Row) → modrm_size r.modrm ≡ 1 → least_of r ≡ Some 0
least_of_some r h = rw h refl

-- where there is none
pub least_none : (entry : Entry) (n : ℕ) (row : Row) → row_at entry n ≡ Some row → modrm_size row.modrm ≡ 0 → least_modrm entry ≡ None
least_none Invalid n row e h = refl
least_none (One r) n row e h = least_of_none r (ap (λ (x : Row). modrm_size x.modrm) (some_is r row e) ∙ h)
least_none (Many g) n row e h =
    let i = in_group g n row true e in
    absurd (omega (arith, h, ap modrm_size i.modrm))

and_false : (b : Bool) → (b && false) ≡ false
and_false true = refl
and_false false = refl

least_in_fits : (g : Group) → least_in g < 256
least_in_fits group.ImmediateByte = omega arith
least_in_fits group.ImmediateFull = omega arith
least_in_fits group.ImmediateSigned = omega arith
least_in_fits group.Pop = omega arith
least_in_fits group.ShiftByteImmediate = omega arith
least_in_fits group.ShiftFullImmediate = omega arith
least_in_fits group.ShiftByteOne = omega arith
least_in_fits group.ShiftFullOne = omega arith
least_in_fits group.ShiftByteCl = omega arith
least_in_fits group.ShiftFullCl = omega arith
least_in_fits group.MovByte = omega arith
least_in_fits group.MovFull = omega arith
least_in_fits group.UnaryByte = omega arith
least_in_fits group.UnaryFull = omega arith
least_in_fits group.IncDecByte = omega arith
least_in_fits group.Indirect = omega arith
least_in_fits group.BitTest = omega arith

least_in_fields : (g : Group) → sib_size (least_in g) + displacement_size (least_in g) (number (sib_size (least_in g)) []) ≡ 0
least_in_fields group.ImmediateByte = refl
least_in_fields group.ImmediateFull = refl
least_in_fields group.ImmediateSigned = refl
least_in_fields group.Pop = refl
least_in_fields group.ShiftByteImmediate = refl
least_in_fields group.ShiftFullImmediate = refl
least_in_fields group.ShiftByteOne = refl
least_in_fields group.ShiftFullOne = refl
least_in_fields group.ShiftByteCl = refl
least_in_fields group.ShiftFullCl = refl
least_in_fields group.MovByte = refl
least_in_fields group.MovFull = refl
least_in_fields group.UnaryByte = refl
least_in_fields group.UnaryFull = refl
least_in_fields group.IncDecByte = refl
least_in_fields group.Indirect = refl
least_in_fields group.BitTest = refl

-- where there is one: the row with the least one fits, and has no longer fields
pub record Least (entry : Entry) (row : Row) (narrow : Bool) : Type 0 where
  pub byte : ℕ
  pub byte_fits : byte < 256
  pub is : least_modrm entry ≡ Some byte
  pub least : Row
  pub at : row_at entry (reg byte) ≡ Some least
  pub open_row : is_refused least narrow byte ≡ false
  pub one : modrm_size least.modrm ≡ 1
  pub size : fields_size least narrow byte [] ≤ immediate_size row.immediate narrow

pub least_some : (entry : Entry) (n : ℕ) (row : Row) (narrow : Bool) → row_at entry n ≡ Some row → modrm_size row.modrm ≡ 1 → (row.barred && narrow) ≡ false → Least entry row narrow
least_some Invalid n row narrow e h o = absurd cc
least_some (One r) n row narrow e h o =
    let same : r ≡ row = some_is r row e in
    record {
      byte = 0;
      byte_fits = omega arith;
      is = least_of_some r (ap (λ (x : Row). modrm_size x.modrm) same ∙ h);
      least = r;
      at = refl;
      open_row = or_neither (r.barred && narrow) (is_memory_only r.modrm && false) (ap (λ (x : Row). x.barred && narrow) same ∙ o) (and_false (is_memory_only r.modrm));
      one = ap (λ (x : Row). modrm_size x.modrm) same ∙ h;
      size = subst (λ (x : Row). fields_size r narrow 0 [] ≤ immediate_size x.immediate narrow) same (omega arith);
    }
least_some (Many g) n row narrow e h o =
    let i = in_group g n row narrow e in
    record {
      byte = least_in g;
      byte_fits = least_in_fits g;
      is = refl;
      least = i.least;
      at = i.at;
      open_row = or_neither (i.least.barred && narrow) (is_memory_only i.least.modrm && names_register (least_in g)) (rw i.least_barred refl) (rw i.least_modrm refl);
      one = ap modrm_size i.least_modrm;
      size = subst (λ (k : ℕ). k + immediate_size i.least.immediate narrow ≤ immediate_size row.immediate narrow) (sym (least_in_fields g)) (omega (arith, i.size));
    }

entry_without : (entry : Entry) (row : Row) (narrow : Bool) (repeat : Repeat) (used len : ℕ) (xs ys zs bs : List ℕ)
    → row_at entry (reg no_modrm) ≡ Some row → is_refused row narrow no_modrm ≡ false → modrm_size row.modrm ≡ 0
    → AreFields row narrow no_modrm xs ys zs → Agrees (xs ++ (ys ++ zs)) bs
    → Finds (entry_read entry narrow repeat used len bs) (used + 0 + (length xs + length ys + length zs)) len (length xs + length ys + length zs) (length bs) (form_of row narrow repeat no_modrm (little_endian xs) (little_endian ys) (little_endian zs))
unfolding entry_read
entry_without entry row narrow repeat used len xs ys zs bs at ok none h a =
    let e : modrm_or (least_modrm entry) bs ≡ no_modrm = ap (λ (o : Option ℕ). modrm_or o bs) (least_none entry (reg no_modrm) row at none) in
    let r : row_read (row_at entry (reg (modrm_or (least_modrm entry) bs))) narrow repeat used len (modrm_or (least_modrm entry) bs) bs ≡ fields_at row narrow repeat (used + 0) len no_modrm bs =
    ap (λ (m : ℕ). row_read (row_at entry (reg m)) narrow repeat used len m bs) e ∙ row_read_is (row_at entry (reg no_modrm)) row narrow repeat used len no_modrm 0 bs at ok none in
    let f = fields_complete row narrow repeat (used + 0) len no_modrm xs ys zs bs h a in
    record { total = f.total; form = f.form; is = r ∙ f.is; least = f.least; size_is = f.size_is; form_is = f.form_is }

entry_there : (entry : Entry) (row : Row) (narrow : Bool) (repeat : Repeat) (used len m : ℕ) (xs ys zs bs : List ℕ)
    → row_at entry (reg m) ≡ Some row → is_refused row narrow m ≡ false → (row.barred && narrow) ≡ false → modrm_size row.modrm ≡ 1
    → AreFields row narrow m xs ys zs → Agrees (xs ++ (ys ++ zs)) bs
    → Finds (entry_read entry narrow repeat used len (m ∷ bs)) (used + 1 + (length xs + length ys + length zs)) len (length xs + length ys + length zs) (length bs) (form_of row narrow repeat m (little_endian xs) (little_endian ys) (little_endian zs))
unfolding entry_read
entry_there entry row narrow repeat used len m xs ys zs bs at ok o one h a =
    let l = least_some entry (reg m) row narrow at one o in
    let e : modrm_or (least_modrm entry) (m ∷ bs) ≡ m = ap (λ (o : Option ℕ). modrm_or o (m ∷ bs)) l.is in
    let r : row_read (row_at entry (reg (modrm_or (least_modrm entry) (m ∷ bs)))) narrow repeat used len (modrm_or (least_modrm entry) (m ∷ bs)) (m ∷ bs) ≡ fields_at row narrow repeat (used + 1) len m bs =
    ap (λ (k : ℕ). row_read (row_at entry (reg k)) narrow repeat used len k (m ∷ bs)) e ∙ row_read_is (row_at entry (reg m)) row narrow repeat used len m 1 (m ∷ bs) at ok one in
    let f = fields_complete row narrow repeat (used + 1) len m xs ys zs bs h a in
    record { total = f.total; form = f.form; is = r ∙ f.is; least = f.least; size_is = f.size_is; form_is = f.form_is }

-- where the bytes end before the ModRM byte
entry_missing : (entry : Entry) (row : Row) (narrow : Bool) (repeat : Repeat) (used len m size : ℕ) (f : Form)
    → row_at entry (reg m) ≡ Some row → (row.barred && narrow) ≡ false → modrm_size row.modrm ≡ 1 → immediate_size row.immediate narrow ≤ size
    → Finds (entry_read entry narrow repeat used len []) (used + 1 + size) len (1 + size) 0 f
unfolding entry_read fields_at
entry_missing entry row narrow repeat used len m size f at o one le =
    let l = least_some entry (reg m) row narrow at one o in
    let e : modrm_or (least_modrm entry) [] ≡ l.byte = ap (λ (o : Option ℕ). modrm_or o []) l.is in
    let r : row_read (row_at entry (reg (modrm_or (least_modrm entry) []))) narrow repeat used len (modrm_or (least_modrm entry) []) [] ≡ fields_at l.least narrow repeat (used + 1) len l.byte [] =
    ap (λ (k : ℕ). row_read (row_at entry (reg k)) narrow repeat used len k []) e ∙ row_read_is (row_at entry (reg l.byte)) l.least narrow repeat used len l.byte 1 [] l.at l.open_row l.one in
    record {
      total = used + 1 + sib_size l.byte + displacement_size l.byte (number (sib_size l.byte) []) + immediate_size l.least.immediate narrow;
      form = form_of l.least narrow repeat l.byte (little_endian (sib_read l.byte [])) (little_endian (displacement_read l.byte [])) (little_endian (immediate_read l.least narrow l.byte []));
      is = r;
      least = regroup_le (used + 1) (sib_size l.byte) (displacement_size l.byte (number (sib_size l.byte) [])) (immediate_size l.least.immediate narrow) size (le_then (fields_size l.least narrow l.byte []) (immediate_size row.immediate narrow) size l.size le);
      size_is = λ enough. absurd (omega (arith, enough));
      form_is = λ enough. absurd (omega (arith, enough));
    }

too_long : (m : ModRm) (n : ℕ) → suc (suc n) ≡ modrm_size m → ⊥
too_long Without n e = omega arith
too_long Either n e = omega arith
too_long MemoryOnly n e = omega arith

abbrev pub modrm_at : List ℕ → ℕ
modrm_at ms = get_or ms 0 no_modrm

pub entry_complete : (entry : Entry) (row : Row) (narrow : Bool) (repeat : Repeat) (used len : ℕ) (ms xs ys zs bs : List ℕ)
    → row_at entry (reg (modrm_at ms)) ≡ Some row
    → (row.barred && narrow) ≡ false
    → length ms ≡ modrm_size row.modrm
    → (is_memory_only row.modrm && names_register (modrm_at ms)) ≡ false
    → AreFields row narrow (modrm_at ms) xs ys zs
    → Agrees (ms ++ (xs ++ (ys ++ zs))) bs
    → Finds (entry_read entry narrow repeat used len bs) (used + length ms + (length xs + length ys + length zs)) len (length ms + (length xs + length ys + length zs)) (length bs) (form_of row narrow repeat (modrm_at ms) (little_endian xs) (little_endian ys) (little_endian zs))
entry_complete entry row narrow repeat used len [] xs ys zs bs at o size memory h a =
    let f = entry_without entry row narrow repeat used len xs ys zs bs at (or_neither (row.barred && narrow) (is_memory_only row.modrm && names_register no_modrm) o memory) (sym size) h a in
    record { total = f.total; form = f.form; is = f.is; least = f.least; size_is = λ enough. f.size_is (omega (arith, enough)); form_is = λ enough. f.form_is (omega (arith, enough)) }
entry_complete entry row narrow repeat used len (m ∷ []) xs ys zs [] at o size memory h a =
    entry_missing entry row narrow repeat used len m (length xs + length ys + length zs) (form_of row narrow repeat m (little_endian xs) (little_endian ys) (little_endian zs)) at o (sym size) (omega (arith, h.immediate_is))
entry_complete entry row narrow repeat used len (m ∷ []) xs ys zs (b ∷ bs) at o size memory h a =
    let f = entry_there entry row narrow repeat used len m xs ys zs bs at (or_neither (row.barred && narrow) (is_memory_only row.modrm && names_register m) o memory) o (sym size) h a.1 in
    subst (λ (c : ℕ). Finds (entry_read entry narrow repeat used len (c ∷ bs)) (used + 1 + (length xs + length ys + length zs)) len (1 + (length xs + length ys + length zs)) (length (c ∷ bs)) (form_of row narrow repeat m (little_endian xs) (little_endian ys) (little_endian zs))) a.0
    (record { total = f.total; form = f.form; is = f.is; least = f.least; size_is = λ enough. f.size_is (omega (arith, enough)); form_is = λ enough. f.form_is (omega (arith, enough)) })
entry_complete entry row narrow repeat used len (m ∷ n ∷ ms) xs ys zs bs at o size memory h a = absurd (too_long row.modrm (length ms) size)
