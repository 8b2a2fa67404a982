-- An instruction that agrees with the bytes is what is read, as far as the bytes go.
use Rattle.std.proofs.Common.{◌≡◌, ℕ, suc, ◌+◌, ◌<◌, ◌≤◌, Bool, true, false, cond, ◌&&◌, List, [], ◌∷◌, ◌++◌, length, drop, Option, Some, None, refl, sym, ap, subst, ◌∙◌, arith, inl, inr, ◌⊎◌}
use Rattle.std.specs.Prelude.{◌==◌}
use Rattle.std.specs.List.{list_all}
use Rattle.std.proofs.lemmas.Bool.{eqb-true}
use Rattle.std.proofs.lemmas.List.{length-append, length-drop, drop_all}
use Rattle.cpu_state.specs.declared.op.Op.TheVariants as op
use Rattle.i386_decode.specs.declared.row.Size.TheVariants.{Full}
use Rattle.i386_decode.specs.declared.row.ModRm.TheVariants.{Without, Either}
use Rattle.i386_decode.specs.declared.row.Place.TheVariants.{Nothing, RegField, RmField, Fixed}
use Rattle.i386_decode.specs.declared.row.ImmediateKind.TheVariants.{NoBytes}
use Rattle.i386_decode.specs.declared.row.Row.{Row}
use Rattle.i386_decode.specs.declared.row.Entry.TheVariants.{Invalid}
use Rattle.i386_decode.specs.declared.form.Form.{Form}
use Rattle.i386_decode.specs.declared.form.Decoded.{Decoded}
use Rattle.i386_decode.specs.Table.{row, one_byte, two_byte}
use Rattle.i386_decode.specs.Fields.{is_prefix, is_narrow, repeat_of, reg, no_modrm, modrm_size, is_memory_only, names_register, little_endian, form_of}
use Rattle.i386_decode.specs.Spelling.{Parts, spelling, IsInstruction, meaning, entry_of, row_at, AreBytes}
use Rattle.i386_decode.specs.Reading.{front, opcode_at, entry_read, answer}
use Rattle.i386_decode.proofs.Lists.{Agrees, bytes_front, bytes_back}
use Rattle.i386_decode.proofs.BoolTests.{and_left, and_right, bool_cases}
use Rattle.i386_decode.proofs.Rules.{opcode_no_prefix, opcode_no_escape, escape_no_prefix, two_byte_more}
use Rattle.i386_decode.proofs.FieldsRead.{AreFields}
use Rattle.i386_decode.proofs.EntryRead.{Finds, modrm_at, entry_complete}

-- what stands behind the prefixes
abbrev pub behind : List ℕ → ℕ → List ℕ → Decoded
behind pre len rest = entry_read (entry_of (opcode_at rest)) (is_narrow pre) (repeat_of pre) (length pre + length (opcode_at rest)) len (drop (length (opcode_at rest)) rest)

none_some : (r : Row) → ◌≡◌ {A = Option Row} None (Some r) → ⊥
none_some r e = cc

finds_more : (d : Decoded) (size more len n h need have : ℕ) (f g : Form) → Finds d size len n h f → size ≤ more → have < need → Finds d more len need have g
finds_more d size more len n h need have f g x le lt = record {
  total = x.total;
  form = x.form;
  is = x.is;
  least = omega (arith, x.least);
  size_is = λ enough. absurd (omega (arith, enough));
  form_is = λ enough. absurd (omega (arith, enough));
}

-- ---- the opcode

inc_row : Row
inc_row = row op.Inc Full Without (Fixed 0) Nothing Nothing NoBytes

imul_row : Row
imul_row = row op.Imul Full Either RegField RmField Nothing NoBytes

-- where no byte of the opcode is there
opcode_missing : (pre : List ℕ) (len : ℕ) → Finds (behind pre len []) (length pre + 1 + 0 + 0) len 0 0 (form_of inc_row (is_narrow pre) (repeat_of pre) no_modrm 0 0 0)
unfolding entry_of one_byte inc_row
opcode_missing pre len = entry_complete (entry_of (0x40 ∷ [])) inc_row (is_narrow pre) (repeat_of pre) (length pre + 1) len [] [] [] [] [] refl refl refl refl (record { sib_is = refl; displacement_is = refl; immediate_is = refl }) tt

-- where the second byte isn't
second_missing : (pre : List ℕ) (len : ℕ) → Finds (behind pre len (0x0f ∷ [])) (length pre + 2 + 1 + 0) len 1 0 (form_of imul_row (is_narrow pre) (repeat_of pre) 0 0 0 0)
unfolding entry_of two_byte imul_row
second_missing pre len = entry_complete (entry_of (0x0f ∷ 0xaf ∷ [])) imul_row (is_narrow pre) (repeat_of pre) (length pre + 2) len (0 ∷ []) [] [] [] [] refl refl refl refl (record { sib_is = refl; displacement_is = refl; immediate_is = refl }) tt

module _ (row : Row) (pre ms xs ys zs : List ℕ) (len : ℕ)
    (open_row : (row.barred && is_narrow pre) ≡ false)
    (size : length ms ≡ modrm_size row.modrm)
    (memory : (is_memory_only row.modrm && names_register (modrm_at ms)) ≡ false)
    (fields : AreFields row (is_narrow pre) (modrm_at ms) xs ys zs) where
  one_complete : (b : ℕ) (rest : List ℕ) → row_at (one_byte b) (reg (modrm_at ms)) ≡ Some row → Agrees (b ∷ (ms ++ (xs ++ (ys ++ zs)))) rest
      → Finds (behind pre len rest) (length pre + 1 + length ms + (length xs + length ys + length zs)) len (1 + (length ms + (length xs + length ys + length zs))) (length rest) (form_of row (is_narrow pre) (repeat_of pre) (modrm_at ms) (little_endian xs) (little_endian ys) (little_endian zs))
  unfolding entry_of
  one_complete b [] at a = finds_more _ _ _ _ _ _ _ _ _ _ (opcode_missing pre len) (omega arith) (omega arith)
  one_complete b (c ∷ rest) at a =
      let f = entry_complete (one_byte b) row (is_narrow pre) (repeat_of pre) (length pre + 1) len ms xs ys zs rest at open_row size memory fields a.1 in
      let e : behind pre len (b ∷ rest) ≡ entry_read (one_byte b) (is_narrow pre) (repeat_of pre) (length pre + 1) len rest = rw (opcode_no_escape b (reg (modrm_at ms)) row at) refl in
      subst (λ (d : ℕ). Finds (behind pre len (d ∷ rest)) (length pre + 1 + length ms + (length xs + length ys + length zs)) len (1 + (length ms + (length xs + length ys + length zs))) (length (d ∷ rest)) (form_of row (is_narrow pre) (repeat_of pre) (modrm_at ms) (little_endian xs) (little_endian ys) (little_endian zs))) a.0
      (record { total = f.total; form = f.form; is = e ∙ f.is; least = f.least; size_is = λ enough. f.size_is (omega (arith, enough)); form_is = λ enough. f.form_is (omega (arith, enough)) })

  two_complete : (b c : ℕ) (rest : List ℕ) → (b == 0x0f) ≡ true → c < 256 → row_at (two_byte c) (reg (modrm_at ms)) ≡ Some row → Agrees (b ∷ c ∷ (ms ++ (xs ++ (ys ++ zs)))) rest
      → Finds (behind pre len rest) (length pre + 2 + length ms + (length xs + length ys + length zs)) len (2 + (length ms + (length xs + length ys + length zs))) (length rest) (form_of row (is_narrow pre) (repeat_of pre) (modrm_at ms) (little_endian xs) (little_endian ys) (little_endian zs))
  unfolding entry_of
  two_complete b c [] escape lt at a = finds_more _ _ _ _ _ _ _ _ _ _ (opcode_missing pre len) (omega arith) (omega arith)
  two_complete b c (d ∷ []) escape lt at a =
      let more = two_byte_more c (reg (modrm_at ms)) row (is_narrow pre) lt at in
      subst (λ (k : ℕ). Finds (behind pre len (k ∷ [])) (length pre + 2 + length ms + (length xs + length ys + length zs)) len (2 + (length ms + (length xs + length ys + length zs))) 1 (form_of row (is_narrow pre) (repeat_of pre) (modrm_at ms) (little_endian xs) (little_endian ys) (little_endian zs))) (sym (eqb-true b 0x0f escape) ∙ a.0)
      (finds_more _ _ _ _ _ _ _ _ _ _ (second_missing pre len) (omega (arith, size, fields.immediate_is, more)) (omega arith))
  two_complete b c (d ∷ e ∷ rest) escape lt at a =
      let f = entry_complete (two_byte c) row (is_narrow pre) (repeat_of pre) (length pre + 2) len ms xs ys zs rest at open_row size memory fields a.1.1 in
      let g : Finds (behind pre len (0x0f ∷ c ∷ rest)) (length pre + 2 + length ms + (length xs + length ys + length zs)) len (2 + (length ms + (length xs + length ys + length zs))) (suc (suc (length rest))) (form_of row (is_narrow pre) (repeat_of pre) (modrm_at ms) (little_endian xs) (little_endian ys) (little_endian zs)) =
      record { total = f.total; form = f.form; is = f.is; least = f.least; size_is = λ enough. f.size_is (omega (arith, enough)); form_is = λ enough. f.form_is (omega (arith, enough)) } in
      subst (λ (s : List ℕ). Finds (behind pre len s) (length pre + 2 + length ms + (length xs + length ys + length zs)) len (2 + (length ms + (length xs + length ys + length zs))) (length s) (form_of row (is_narrow pre) (repeat_of pre) (modrm_at ms) (little_endian xs) (little_endian ys) (little_endian zs)))
      (ap (λ (k : ℕ). k ∷ c ∷ rest) (sym (eqb-true b 0x0f escape) ∙ a.0) ∙ ap (λ (k : ℕ). d ∷ k ∷ rest) a.1.0) g

-- The opcode's first byte is no prefix; and what stands behind the prefixes is read.
record Opened (row : Row) (pre ops ms xs ys zs : List ℕ) : Type 0 where
  pub first : ℕ
  pub others : List ℕ
  pub is : ops ≡ first ∷ others
  pub no_prefix : is_prefix first ≡ false
  pub reads : (len : ℕ) (rest : List ℕ) → Agrees (ops ++ (ms ++ (xs ++ (ys ++ zs)))) rest
      → Finds (behind pre len rest) (length pre + length ops + length ms + (length xs + length ys + length zs)) len (length ops + (length ms + (length xs + length ys + length zs))) (length rest) (form_of row (is_narrow pre) (repeat_of pre) (modrm_at ms) (little_endian xs) (little_endian ys) (little_endian zs))

two_opened : (row : Row) (pre : List ℕ) (b c : ℕ) (ms xs ys zs : List ℕ) → (b == 0x0f) ≡ true → row_at (two_byte c) (reg (modrm_at ms)) ≡ Some row
    → (row.barred && is_narrow pre) ≡ false → length ms ≡ modrm_size row.modrm → (is_memory_only row.modrm && names_register (modrm_at ms)) ≡ false → AreFields row (is_narrow pre) (modrm_at ms) xs ys zs → c < 256
    → Opened row pre (b ∷ c ∷ []) ms xs ys zs
two_opened row pre b c ms xs ys zs escape at o size memory fields lt = record {
  first = b;
  others = c ∷ [];
  is = refl;
  no_prefix = ap is_prefix (eqb-true b 0x0f escape) ∙ escape_no_prefix;
  reads = λ len rest a. two_complete row pre ms xs ys zs len o size memory fields b c rest escape lt at a;
}

abbrev row_two : Bool → ℕ → ℕ → Option Row
row_two e c n = row_at (cond e (two_byte c) Invalid) n

opened_two : (row : Row) (pre : List ℕ) (b c : ℕ) (ms xs ys zs : List ℕ) → row_two (b == 0x0f) c (reg (modrm_at ms)) ≡ Some row
    → (row.barred && is_narrow pre) ≡ false → length ms ≡ modrm_size row.modrm → (is_memory_only row.modrm && names_register (modrm_at ms)) ≡ false → AreFields row (is_narrow pre) (modrm_at ms) xs ys zs → c < 256
    → ((b == 0x0f) ≡ true) ⊎ ((b == 0x0f) ≡ false) → Opened row pre (b ∷ c ∷ []) ms xs ys zs
opened_two row pre b c ms xs ys zs at o size memory fields lt (inl escape) =
    two_opened row pre b c ms xs ys zs escape (ap (λ (e : Bool). row_two e c (reg (modrm_at ms))) (sym escape) ∙ at) o size memory fields lt
opened_two row pre b c ms xs ys zs at o size memory fields lt (inr other) =
    let wrong : row_two false c (reg (modrm_at ms)) ≡ Some row = ap (λ (e : Bool). row_two e c (reg (modrm_at ms))) (sym other) ∙ at in
    absurd (none_some row wrong)

opened : (row : Row) (pre ops ms xs ys zs : List ℕ) → row_at (entry_of ops) (reg (modrm_at ms)) ≡ Some row
    → (row.barred && is_narrow pre) ≡ false → length ms ≡ modrm_size row.modrm → (is_memory_only row.modrm && names_register (modrm_at ms)) ≡ false → AreFields row (is_narrow pre) (modrm_at ms) xs ys zs → AreBytes ops
    → Opened row pre ops ms xs ys zs
unfolding entry_of
opened row pre [] ms xs ys zs at o size memory fields fits = absurd cc
opened row pre (b ∷ []) ms xs ys zs at o size memory fields fits = record {
  first = b;
  others = [];
  is = refl;
  no_prefix = opcode_no_prefix b (reg (modrm_at ms)) row at;
  reads = λ len rest a. one_complete row pre ms xs ys zs len o size memory fields b rest at a;
}
opened row pre (b ∷ c ∷ []) ms xs ys zs at o size memory fields fits = opened_two row pre b c ms xs ys zs at o size memory fields (fits 1) (bool_cases (b == 0x0f))
opened row pre (b ∷ c ∷ d ∷ ops) ms xs ys zs at o size memory fields fits = absurd cc

-- ---- the prefixes

-- Either all bytes are prefixes, fewer than the instruction has, or the instruction's prefixes are those of the bytes.
front_splits : (ps : List ℕ) (t : ℕ) (ts bytes : List ℕ) → list_all is_prefix ps ≡ true → is_prefix t ≡ false → Agrees (ps ++ (t ∷ ts)) bytes
    → ((front bytes ≡ bytes) × (length bytes ≤ length ps)) ⊎ ((front bytes ≡ ps) × (length ps ≤ length bytes) × Agrees (t ∷ ts) (drop (length ps) bytes))
front_splits [] t ts [] all other a = inl (refl, omega arith)
front_splits [] t ts (b ∷ bytes) all other a = inr (rw (ap is_prefix (sym a.0) ∙ other) refl, omega arith, a)
front_splits (p ∷ ps) t ts [] all other a = inl (refl, omega arith)
front_splits (p ∷ ps) t ts (b ∷ bytes) all other a =
    let e : front (b ∷ bytes) ≡ b ∷ front bytes = rw (ap is_prefix (sym a.0) ∙ and_left _ _ all) refl in
    elim (front_splits ps t ts bytes (and_right _ _ all) other a.1) [
      | inl x ↦ inl (e ∙ ap (λ (s : List ℕ). b ∷ s) x.0, omega (arith, x.1))
      | inr x ↦ inr (e ∙ ap (λ (s : List ℕ). b ∷ s) x.0 ∙ ap (λ (k : ℕ). k ∷ ps) (sym a.0), omega (arith, x.1), x.2)
    ]

pub spelling_length : (p : Parts) → length (spelling p) ≡ length p.prefixes + (length p.opcode + (length p.modrm + (length p.sib + length p.displacement + length p.immediate)))
spelling_length p =
    omega (
      arith,
      length-append p.prefixes (p.opcode ++ (p.modrm ++ (p.sib ++ (p.displacement ++ p.immediate)))),
      length-append p.opcode (p.modrm ++ (p.sib ++ (p.displacement ++ p.immediate))),
      length-append p.modrm (p.sib ++ (p.displacement ++ p.immediate)),
      length-append p.sib (p.displacement ++ p.immediate),
      length-append p.displacement p.immediate,
    )

drop_whole : (bytes : List ℕ) → drop (length bytes) bytes ≡ []
drop_whole bytes = drop_all (length bytes) bytes (omega arith)

pub answer_is : (bytes : List ℕ) → answer bytes ≡ behind (front bytes) (length bytes) (drop (length (front bytes)) bytes)
unfolding answer
answer_is bytes = refl

pub answer_complete : (row : Row) (p : Parts) (bytes : List ℕ) → IsInstruction row p → AreBytes (spelling p) → Agrees (spelling p) bytes
    → Finds (answer bytes) (length (spelling p)) (length bytes) (length (spelling p)) (length bytes) (meaning row p)
answer_complete row p bytes i fits a =
    let o = opened row p.prefixes p.opcode p.modrm p.sib p.displacement p.immediate i.opcode i.operand_size i.modrm i.memory (record { sib_is = i.sib; displacement_is = i.displacement; immediate_is = i.immediate }) (bytes_front p.opcode _ (bytes_back p.prefixes _ fits)) in
    let lengths : length (spelling p) ≡ length p.prefixes + (length p.opcode + (length p.modrm + (length p.sib + length p.displacement + length p.immediate))) = spelling_length p in
    let head : p.prefixes ++ (o.first ∷ (o.others ++ (p.modrm ++ (p.sib ++ (p.displacement ++ p.immediate))))) ≡ spelling p = ap (λ (s : List ℕ). p.prefixes ++ (s ++ (p.modrm ++ (p.sib ++ (p.displacement ++ p.immediate))))) (sym o.is) in
    let some_opcode : 1 ≤ length p.opcode = omega (arith, ap length o.is) in
    elim (front_splits p.prefixes o.first (o.others ++ (p.modrm ++ (p.sib ++ (p.displacement ++ p.immediate)))) bytes i.prefixes o.no_prefix (subst (λ (s : List ℕ). Agrees s bytes) (sym head) a)) [
      | inl x ↦
          let m = opcode_missing bytes (length bytes) in
          let e : answer bytes ≡ behind bytes (length bytes) [] = answer_is bytes ∙ ap (λ (s : List ℕ). behind s (length bytes) (drop (length s) bytes)) x.0 ∙ ap (λ (s : List ℕ). behind bytes (length bytes) s) (drop_whole bytes) in
          record {
            total = m.total;
            form = m.form;
            is = e ∙ m.is;
            least = omega (arith, m.least, x.1, lengths, some_opcode);
            size_is = λ enough. absurd (omega (arith, enough, x.1, lengths, some_opcode));
            form_is = λ enough. absurd (omega (arith, enough, x.1, lengths, some_opcode));
          }
      | inr x ↦
          let b : Agrees (p.opcode ++ (p.modrm ++ (p.sib ++ (p.displacement ++ p.immediate)))) (drop (length p.prefixes) bytes) =
          subst (λ (s : List ℕ). Agrees (s ++ (p.modrm ++ (p.sib ++ (p.displacement ++ p.immediate)))) (drop (length p.prefixes) bytes)) (sym o.is) x.2 in
          let f = o.reads (length bytes) (drop (length p.prefixes) bytes) b in
          let e : answer bytes ≡ behind p.prefixes (length bytes) (drop (length p.prefixes) bytes) = answer_is bytes ∙ ap (λ (s : List ℕ). behind s (length bytes) (drop (length s) bytes)) x.0 in
          record {
            total = f.total;
            form = f.form;
            is = e ∙ f.is;
            least = omega (arith, f.least, lengths);
            size_is = λ enough. f.size_is (omega (arith, enough, lengths, length-drop (length p.prefixes) bytes, x.1)) ∙ omega (arith, lengths);
            form_is = λ enough. f.form_is (omega (arith, enough, lengths, length-drop (length p.prefixes) bytes, x.1));
          }
    ]
