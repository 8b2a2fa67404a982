-- What is read is an instruction that agrees with the bytes.
use Rattle.std.proofs.Common.{◌≡◌, ℕ, suc, ◌+◌, Bool, true, false, cond, ◌&&◌, List, [], ◌∷◌, ◌++◌, length, get_or, drop, Option, Some, None, refl, sym, ap, subst, ◌∙◌, arith, inl, inr, ◌⊎◌}
use Rattle.std.specs.Prelude.{◌==◌}
use Rattle.std.specs.List.{list_all}
use Rattle.std.proofs.lemmas.Bool.{eqb-true}
use Rattle.i386_decode.specs.declared.row.ModRm.{ModRm}
use Rattle.i386_decode.specs.declared.row.ModRm.TheVariants.{Without, Either, MemoryOnly}
use Rattle.i386_decode.specs.declared.row.Row.{Row}
use Rattle.i386_decode.specs.declared.row.Entry.{Entry}
use Rattle.i386_decode.specs.declared.form.Repeat.{Repeat}
use Rattle.i386_decode.specs.declared.form.Decoded.TheVariants as decoded
use Rattle.i386_decode.specs.Fields.{is_prefix, is_narrow, repeat_of, reg, no_modrm, modrm_size, is_memory_only, names_register, sib_size, displacement_size, immediate_size, little_endian, form_of}
use Rattle.i386_decode.specs.Spelling.{Parts, spelling, IsInstruction, meaning, entry_of, row_at, AreBytes}
use Rattle.i386_decode.specs.Reading.{front, opcode_at, number, finish, fields_at, modrm_or, least_modrm, is_refused, row_read, entry_read, answer}
use Rattle.i386_decode.proofs.Lists.{Agrees, agrees_nothing, length_filled, bytes_append, bytes_cons, bytes_nil, bytes_drop, bytes_or}
use Rattle.i386_decode.proofs.BoolTests.{or_left, or_right, bool_cases}
use Rattle.i386_decode.proofs.FieldsRead.{AreFields, sib_read, displacement_read, immediate_read, fields_at_front, fields_read, fields_agree, fields_bytes}
use Rattle.i386_decode.proofs.EntryRead.{modrm_at, least_none, least_some, row_read_is, regroup}
use Rattle.i386_decode.proofs.ReadingComplete.{answer_is, spelling_length}

-- ---- behind the opcode

-- the fields of an instruction with this entry, which agree with the bytes
pub record Built (entry : Entry) (narrow : Bool) (repeat : Repeat) (used len : ℕ) (bs : List ℕ) : Type 0 where
  pub row : Row
  pub ms : List ℕ
  pub xs : List ℕ
  pub ys : List ℕ
  pub zs : List ℕ
  pub at : row_at entry (reg (modrm_at ms)) ≡ Some row
  pub open_row : (row.barred && narrow) ≡ false
  pub size : length ms ≡ modrm_size row.modrm
  pub memory : (is_memory_only row.modrm && names_register (modrm_at ms)) ≡ false
  pub fields : AreFields row narrow (modrm_at ms) xs ys zs
  pub agrees : Agrees (ms ++ (xs ++ (ys ++ zs))) bs
  pub fits : AreBytes (ms ++ (xs ++ (ys ++ zs)))
  pub is : entry_read entry narrow repeat used len bs ≡ finish (used + length ms + (length xs + length ys + length zs)) len (form_of row narrow repeat (modrm_at ms) (little_endian xs) (little_endian ys) (little_endian zs))

fields_sound : (row : Row) (narrow : Bool) (repeat : Repeat) (used len m : ℕ) (bs : List ℕ) →
    fields_at row narrow repeat used len m bs ≡ finish (used + (length (sib_read m bs) + length (displacement_read m bs) + length (immediate_read row narrow m bs))) len (form_of row narrow repeat m (little_endian (sib_read m bs)) (little_endian (displacement_read m bs)) (little_endian (immediate_read row narrow m bs)))
unfolding fields_at
fields_sound row narrow repeat used len m bs =
    ap (λ (t : ℕ). finish t len (form_of row narrow repeat m (little_endian (sib_read m bs)) (little_endian (displacement_read m bs)) (little_endian (immediate_read row narrow m bs))))
    (regroup used (sib_size m) (displacement_size m (number (sib_size m) bs)) (immediate_size row.immediate narrow) _ _ _ (sym (length_filled _ _)) (sym (length_filled _ _)) (sym (length_filled _ _)))

option_cases : (o : Option Row) → (o ≡ None) ⊎ ((row : Row) × (o ≡ Some row))
option_cases None = inl refl
option_cases (Some row) = inr (row, refl)

size_cases : (m : ModRm) → (modrm_size m ≡ 0) ⊎ (modrm_size m ≡ 1)
size_cases Without = inl refl
size_cases Either = inr refl
size_cases MemoryOnly = inr refl

agrees_least : (least : ℕ) (xs bs : List ℕ) → Agrees xs (drop 1 bs) → Agrees (get_or bs 0 least ∷ xs) bs
agrees_least least xs [] a = tt
agrees_least least xs (b ∷ bs) a = (refl, a)

-- without a ModRM byte
built_without : (entry : Entry) (row : Row) (narrow : Bool) (repeat : Repeat) (used len : ℕ) (bs : List ℕ) → AreBytes bs
    → row_at entry (reg (modrm_or (least_modrm entry) bs)) ≡ Some row → is_refused row narrow (modrm_or (least_modrm entry) bs) ≡ false → modrm_size row.modrm ≡ 0
    → Built entry narrow repeat used len bs
unfolding entry_read
built_without entry row narrow repeat used len bs fits at ok none =
    let e : modrm_or (least_modrm entry) bs ≡ no_modrm = ap (λ (o : Option ℕ). modrm_or o bs) (least_none entry (reg (modrm_or (least_modrm entry) bs)) row at none) in
    let at2 : row_at entry (reg no_modrm) ≡ Some row = ap (λ (m : ℕ). row_at entry (reg m)) (sym e) ∙ at in
    let ok2 : is_refused row narrow no_modrm ≡ false = ap (λ (m : ℕ). is_refused row narrow m) (sym e) ∙ ok in
    let r : row_read (row_at entry (reg (modrm_or (least_modrm entry) bs))) narrow repeat used len (modrm_or (least_modrm entry) bs) bs ≡ fields_at row narrow repeat (used + 0) len no_modrm bs =
    ap (λ (m : ℕ). row_read (row_at entry (reg m)) narrow repeat used len m bs) e ∙ row_read_is (row_at entry (reg no_modrm)) row narrow repeat used len no_modrm 0 bs at2 ok2 none in
    record {
      row = row;
      ms = [];
      xs = sib_read no_modrm bs;
      ys = displacement_read no_modrm bs;
      zs = immediate_read row narrow no_modrm bs;
      at = at2;
      open_row = or_left _ _ ok2;
      size = sym none;
      memory = or_right _ _ ok2;
      fields = fields_read row narrow no_modrm bs;
      agrees = fields_agree row narrow no_modrm bs;
      fits = fields_bytes row narrow no_modrm bs fits;
      is = r ∙ fields_sound row narrow repeat (used + 0) len no_modrm bs;
    }

built_with : (entry : Entry) (row : Row) (narrow : Bool) (repeat : Repeat) (used len : ℕ) (bs : List ℕ) → AreBytes bs
    → row_at entry (reg (modrm_or (least_modrm entry) bs)) ≡ Some row → is_refused row narrow (modrm_or (least_modrm entry) bs) ≡ false → modrm_size row.modrm ≡ 1
    → Built entry narrow repeat used len bs
unfolding entry_read
built_with entry row narrow repeat used len bs fits at ok one =
    let l = least_some entry (reg (modrm_or (least_modrm entry) bs)) row narrow at one (or_left _ _ ok) in
    let e : modrm_or (least_modrm entry) bs ≡ get_or bs 0 l.byte = ap (λ (o : Option ℕ). modrm_or o bs) l.is in
    let m : ℕ = get_or bs 0 l.byte in
    let at2 : row_at entry (reg (get_or bs 0 l.byte)) ≡ Some row = ap (λ (m : ℕ). row_at entry (reg m)) (sym e) ∙ at in
    let ok2 : is_refused row narrow (get_or bs 0 l.byte) ≡ false = ap (λ (m : ℕ). is_refused row narrow m) (sym e) ∙ ok in
    let r : row_read (row_at entry (reg (modrm_or (least_modrm entry) bs))) narrow repeat used len (modrm_or (least_modrm entry) bs) bs ≡ fields_at row narrow repeat (used + 1) len (get_or bs 0 l.byte) (drop 1 bs) =
    ap (λ (m : ℕ). row_read (row_at entry (reg m)) narrow repeat used len m bs) e ∙ row_read_is (row_at entry (reg (get_or bs 0 l.byte))) row narrow repeat used len (get_or bs 0 l.byte) 1 bs at2 ok2 one in
    record {
      row = row;
      ms = m ∷ [];
      xs = sib_read m (drop 1 bs);
      ys = displacement_read m (drop 1 bs);
      zs = immediate_read row narrow m (drop 1 bs);
      at = at2;
      open_row = or_left _ _ ok2;
      size = sym one;
      memory = or_right _ _ ok2;
      fields = fields_read row narrow m (drop 1 bs);
      agrees = agrees_least l.byte (fields_at_front row narrow m (drop 1 bs)) bs (fields_agree row narrow m (drop 1 bs));
      fits = bytes_cons m (fields_at_front row narrow m (drop 1 bs)) (bytes_or bs 0 l.byte fits l.byte_fits) (fields_bytes row narrow m (drop 1 bs) (bytes_drop 1 bs fits));
      is = r ∙ fields_sound row narrow repeat (used + 1) len m (drop 1 bs);
    }

entry_sound : (entry : Entry) (narrow : Bool) (repeat : Repeat) (used len : ℕ) (bs : List ℕ) → AreBytes bs → (entry_read entry narrow repeat used len bs ≡ decoded.Undefined) ⊎ Built entry narrow repeat used len bs
unfolding entry_read
entry_sound entry narrow repeat used len bs fits =
    let m : ℕ = modrm_or (least_modrm entry) bs in
    elim (option_cases (row_at entry (reg (modrm_or (least_modrm entry) bs)))) [
      | inl e ↦ inl (ap (λ (o : Option Row). row_read o narrow repeat used len m bs) e)
      | inr x ↦
          elim (bool_cases (is_refused x.0 narrow (modrm_or (least_modrm entry) bs))) [
            | inl yes1 ↦ inl (ap (λ (o : Option Row). row_read o narrow repeat used len m bs) x.1 ∙ ap (λ (b : Bool). cond b decoded.Undefined (fields_at x.0 narrow repeat (used + modrm_size x.0.modrm) len m (drop (modrm_size x.0.modrm) bs))) yes1)
            | inr ok ↦
                elim (size_cases x.0.modrm) [
                  | inl none ↦ inr (built_without entry x.0 narrow repeat used len bs fits x.1 ok none)
                  | inr one ↦ inr (built_with entry x.0 narrow repeat used len bs fits x.1 ok one)
                ]
          ]
    ]

-- ---- the whole

pub record Reads (bytes : List ℕ) : Type 0 where
  pub row : Row
  pub parts : Parts
  pub instruction : IsInstruction row parts
  pub fits : AreBytes (spelling parts)
  pub agrees : Agrees (spelling parts) bytes
  pub is : answer bytes ≡ finish (length (spelling parts)) (length bytes) (meaning row parts)

front_prefix : (b : ℕ) (bytes : List ℕ) → is_prefix b ≡ true → front (b ∷ bytes) ≡ b ∷ front bytes
front_prefix b bytes h = rw h refl

front_other : (b : ℕ) (bytes : List ℕ) → is_prefix b ≡ false → front (b ∷ bytes) ≡ []
front_other b bytes h = rw h refl

front_all_then : (b : ℕ) (bytes : List ℕ) (h : is_prefix b ≡ true) → list_all is_prefix (front bytes) ≡ true → list_all is_prefix (front (b ∷ bytes)) ≡ true
front_all_then b bytes h k = ap (λ (s : List ℕ). list_all is_prefix s) (front_prefix b bytes h) ∙ ap (λ (x : Bool). x && list_all is_prefix (front bytes)) h ∙ k

front_all : (bytes : List ℕ) → list_all is_prefix (front bytes) ≡ true
front_all [] = refl
front_all (b ∷ bytes) =
    elim (bool_cases (is_prefix b)) [
      | inl same ↦ front_all_then b bytes same (front_all bytes)
      | inr other ↦ rw other refl
    ]

front_agrees : (tail bytes : List ℕ) → Agrees tail (drop (length (front bytes)) bytes) → Agrees (front bytes ++ tail) bytes
front_agrees tail [] a = agrees_nothing tail
front_agrees tail (b ∷ bytes) a =
    elim (bool_cases (is_prefix b)) [
      | inl same ↦ subst (λ (s : List ℕ). Agrees (s ++ tail) (b ∷ bytes)) (sym (front_prefix b bytes same)) (refl, front_agrees tail bytes (subst (λ (s : List ℕ). Agrees tail (drop (length s) (b ∷ bytes))) (front_prefix b bytes same) a))
      | inr other ↦ subst (λ (s : List ℕ). Agrees (s ++ tail) (b ∷ bytes)) (sym (front_other b bytes other)) (subst (λ (s : List ℕ). Agrees tail (drop (length s) (b ∷ bytes))) (front_other b bytes other) a)
    ]

opcode_agrees : (tail rest : List ℕ) → Agrees tail (drop (length (opcode_at rest)) rest) → Agrees (opcode_at rest ++ tail) rest
opcode_agrees tail [] a = agrees_nothing (opcode_at [] ++ tail)
opcode_agrees tail (b ∷ []) a =
    elim (bool_cases (b == 0x0f)) [
      | inl same ↦ rw same (sym (eqb-true b 0x0f same), tt)
      | inr other ↦ rw other (refl, agrees_nothing tail)
    ]
opcode_agrees tail (b ∷ c ∷ rest) a =
    elim (bool_cases (b == 0x0f)) [
      | inl same ↦ rw same (sym (eqb-true b 0x0f same), (refl, rw same at a))
      | inr other ↦ rw other (refl, rw other at a)
    ]

opcode_bytes : (rest : List ℕ) → AreBytes rest → AreBytes (opcode_at rest)
opcode_bytes rest fits =
    elim (bool_cases (get_or rest 0 0x40 == 0x0f)) [
      | inl same ↦ rw same (bytes_cons 0x0f (get_or rest 1 0xaf ∷ []) (omega arith) (bytes_cons (get_or rest 1 0xaf) [] (bytes_or rest 1 0xaf fits (omega arith)) bytes_nil))
      | inr other ↦ rw other (bytes_cons (get_or rest 0 0x40) [] (bytes_or rest 0 0x40 fits (omega arith)) bytes_nil)
    ]

front_bytes : (bytes : List ℕ) → AreBytes bytes → AreBytes (front bytes)
front_bytes [] fits = bytes_nil
front_bytes (b ∷ bytes) fits =
    elim (bool_cases (is_prefix b)) [
      | inl same ↦ rw same (bytes_cons b (front bytes) (fits 0) (front_bytes bytes (λ i. fits (suc i))))
      | inr other ↦ rw other bytes_nil
    ]

abbrev rest_of : List ℕ → List ℕ
rest_of bytes = drop (length (front bytes)) bytes

abbrev behind_of : List ℕ → List ℕ
behind_of bytes = drop (length (opcode_at (rest_of bytes))) (rest_of bytes)

pub answer_sound : (bytes : List ℕ) → AreBytes bytes → (answer bytes ≡ decoded.Undefined) ⊎ Reads bytes
answer_sound bytes fits =
    let pre : List ℕ = front bytes in
    let ops : List ℕ = opcode_at (rest_of bytes) in
    let rest_fits : AreBytes (rest_of bytes) = bytes_drop (length (front bytes)) bytes fits in
    elim (entry_sound (entry_of (opcode_at (rest_of bytes))) (is_narrow (front bytes)) (repeat_of (front bytes)) (length (front bytes) + length (opcode_at (rest_of bytes))) (length bytes) (behind_of bytes) (bytes_drop (length (opcode_at (rest_of bytes))) (rest_of bytes) rest_fits)) [
      | inl e ↦ inl (answer_is bytes ∙ e)
      | inr b ↦
          let parts : Parts = record { prefixes = front bytes; opcode = opcode_at (rest_of bytes); modrm = b.ms; sib = b.xs; displacement = b.ys; immediate = b.zs } in
          inr record {
            row = b.row;
            parts = parts;
            instruction = record {
              prefixes = front_all bytes;
              opcode = b.at;
              operand_size = b.open_row;
              modrm = b.size;
              memory = b.memory;
              sib = b.fields.sib_is;
              displacement = b.fields.displacement_is;
              immediate = b.fields.immediate_is;
            };
            fits = bytes_append (front bytes) _ (front_bytes bytes fits) (bytes_append (opcode_at (rest_of bytes)) _ (opcode_bytes (rest_of bytes) rest_fits) b.fits);
            agrees = front_agrees _ bytes (opcode_agrees _ (rest_of bytes) b.agrees);
            is = answer_is bytes ∙ b.is ∙ ap (λ (t : ℕ). finish t (length bytes) (meaning b.row parts)) (omega (arith, spelling_length parts));
          }
    ]
