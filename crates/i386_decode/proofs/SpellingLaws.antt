-- What is read, in terms of what is spelled.
use Rattle.std.proofs.Common.{◌≡◌, ℕ, zero, suc, ◌<◌, ◌≤◌, List, [], ◌∷◌, ◌++◌, length, take, drop, refl, sym, ap, subst, ◌∙◌, arith, inl, inr, ◌⊎◌, append_assoc}
use Rattle.std.specs.Prelude.{◌↔◌}
use Rattle.std.proofs.lemmas.Bool.{cases_lt, le-ltb, lt-ltb}
use Rattle.std.proofs.lemmas.List.{length-append, length-drop, length-take, take-append-drop}
use Rattle.i386_decode.specs.declared.form.Form.{Form}
use Rattle.i386_decode.specs.declared.form.Decoded.TheVariants as decoded
use Rattle.i386_decode.specs.Spelling.{spelling, meaning, AreBytes, Spells, BeginsWith, BeginsSpelling, SpellsNothing}
use Rattle.i386_decode.specs.Reading.{finish, answer, decode_of}
use Rattle.i386_decode.proofs.Lists.{Agrees, agrees_take, agrees_begin, agrees_whole, agrees_part, bytes_front}
use Rattle.i386_decode.proofs.EntryRead.{Finds}
use Rattle.i386_decode.proofs.ReadingComplete.{answer_complete}
use Rattle.i386_decode.proofs.ReadingSound.{Reads, answer_sound}

finish_form : (total len : ℕ) (f : Form) → total ≤ 15 → total ≤ len → finish total len f ≡ decoded.Form f total
finish_form total len f h k = rw (le-ltb _ _ h, le-ltb _ _ k) refl

finish_short : (total len : ℕ) (f : Form) → total ≤ 15 → len < total → finish total len f ≡ decoded.Short
finish_short total len f h k = rw (le-ltb _ _ h, lt-ltb _ _ k) refl

finish_undefined : (total len : ℕ) (f : Form) → 15 < total → finish total len f ≡ decoded.Undefined
finish_undefined total len f h = rw (lt-ltb _ _ h) refl

-- a spelling that agrees with the bytes is found
found : (s bytes : List ℕ) (f : Form) → Spells s f → Agrees s bytes → Finds (answer bytes) (length s) (length bytes) (length s) (length bytes) f
found s bytes f h a =
    let e = sym h.spelled in
    let c = answer_complete h.row h.parts bytes h.instruction (subst AreBytes h.spelled h.bytes) (subst (λ (x : List ℕ). Agrees x bytes) h.spelled a) in
    let d = subst (λ (x : List ℕ). Finds (answer bytes) (length x) (length bytes) (length x) (length bytes) (meaning h.row h.parts)) e c in
    subst (λ (g : Form). Finds (answer bytes) (length s) (length bytes) (length s) (length bytes) g) (sym h.form) d

-- What the bytes begin with is read.
pub reads_front : (bytes : List ℕ) (n : ℕ) (f : Form) → n ≤ length bytes → Spells (take n bytes) f → answer bytes ≡ decoded.Form f n
reads_front bytes n f le h =
    let c = found (take n bytes) bytes f h (agrees_take n bytes) in
    let size : length (take n bytes) ≡ n = omega (arith, length-take n bytes) in
    let total : c.total ≡ n = c.size_is (omega (arith, size)) ∙ size in
    let form : c.form ≡ f = c.form_is (omega (arith, size)) in
    c.is ∙ finish_form c.total (length bytes) c.form (omega (arith, total, size, h.size)) (omega (arith, total)) ∙ ap (λ (g : Form). decoded.Form g c.total) form ∙ ap (λ (k : ℕ). decoded.Form f k) total

-- ---- which of the three it is

pub record IsForm (bytes : List ℕ) : Type 0 where
  pub form : Form
  pub size : ℕ
  pub is : answer bytes ≡ decoded.Form form size
  pub within : size ≤ length bytes
  pub spells : Spells (take size bytes) form

pub record IsShort (bytes : List ℕ) : Type 0 where
  pub is : answer bytes ≡ decoded.Short
  pub begins : BeginsSpelling bytes

form_read : (bytes : List ℕ) (r : Reads bytes) → length (spelling r.parts) ≤ 15 → length (spelling r.parts) ≤ length bytes → IsForm bytes
form_read bytes r h k =
    let e : take (length (spelling r.parts)) bytes ≡ spelling r.parts = agrees_whole (spelling r.parts) bytes r.agrees k in
    record {
      form = meaning r.row r.parts;
      size = length (spelling r.parts);
      is = r.is ∙ finish_form (length (spelling r.parts)) (length bytes) (meaning r.row r.parts) h k;
      within = k;
      spells = record { row = r.row; parts = r.parts; instruction = r.instruction; bytes = subst AreBytes (sym e) r.fits; spelled = e; form = refl; size = omega (arith, ap length e, h) };
    }

short_read : (bytes : List ℕ) (r : Reads bytes) → length (spelling r.parts) ≤ 15 → length bytes < length (spelling r.parts) → IsShort bytes
short_read bytes r h k =
    let e : bytes ++ drop (length bytes) (spelling r.parts) ≡ spelling r.parts = agrees_part (spelling r.parts) bytes r.agrees (omega arith) in
    record {
      is = r.is ∙ finish_short (length (spelling r.parts)) (length bytes) (meaning r.row r.parts) h k;
      begins = record {
        form = meaning r.row r.parts;
        more = drop (length bytes) (spelling r.parts);
        some = omega (arith, length-drop (length bytes) (spelling r.parts));
        spells = record { row = r.row; parts = r.parts; instruction = r.instruction; bytes = subst AreBytes (sym e) r.fits; spelled = e; form = refl; size = omega (arith, ap length e, h) };
      };
    }

pub answers : (bytes : List ℕ) → AreBytes bytes → (answer bytes ≡ decoded.Undefined) ⊎ (IsForm bytes ⊎ IsShort bytes)
answers bytes fits =
    elim (answer_sound bytes fits) [
      | inl e ↦ inl e
      | inr r ↦
          elim (cases_lt 15 (length (spelling r.parts))) [
            | inl long ↦ inl (r.is ∙ finish_undefined (length (spelling r.parts)) (length bytes) (meaning r.row r.parts) long)
            | inr h ↦
                elim (cases_lt (length bytes) (length (spelling r.parts))) [
                  | inl less ↦ inr (inr (short_read bytes r h less))
                  | inr k ↦ inr (inl (form_read bytes r h k))
                ]
          ]
    ]

take_front : (s more : List ℕ) → take (length s) (s ++ more) ≡ s
take_front [] more = refl
take_front (x ∷ s) more = ap (λ (t : List ℕ). x ∷ t) (take_front s more)

take_all_of : (s : List ℕ) → take (length s) s ≡ s
take_all_of [] = refl
take_all_of (x ∷ s) = ap (λ (t : List ℕ). x ∷ t) (take_all_of s)

nothing : (s : List ℕ) → length s ≡ 0 → s ≡ []
nothing [] h = refl
nothing (x ∷ s) h = absurd (omega arith)

form_is : (f g : Form) (n m : ℕ) → decoded.Form f n ≡ decoded.Form g m → (f ≡ g) × (n ≡ m)
form_is f g n m e = (cc, cc)

undefined_form : (f : Form) (n : ℕ) → decoded.Form f n ≡ decoded.Undefined → ⊥
undefined_form f n e = cc

undefined_short : decoded.Short ≡ decoded.Undefined → ⊥
undefined_short e = cc

not_undefined : (total len : ℕ) (f : Form) → total ≤ 15 → finish total len f ≡ decoded.Undefined → ⊥
not_undefined total len f h e =
    elim (cases_lt len total) [
      | inl less ↦ undefined_short (sym (finish_short total len f h less) ∙ e)
      | inr k ↦ undefined_form f total (sym (finish_form total len f h k) ∙ e)
    ]

-- ---- no spelling begins another, and bytes spell one form

pub one_spelling : (s more : List ℕ) (f g : Form) → Spells s f → Spells (s ++ more) g → (more ≡ []) × (f ≡ g)
one_spelling s more f g h k =
    let a = reads_front (s ++ more) (length s) f (omega (arith, length-append s more)) (subst (λ (x : List ℕ). Spells x f) (sym (take_front s more)) h) in
    let b = reads_front (s ++ more) (length (s ++ more)) g (omega arith) (subst (λ (x : List ℕ). Spells x g) (sym (take_all_of (s ++ more))) k) in
    let e = form_is f g (length s) (length (s ++ more)) (sym a ∙ b) in
    (nothing more (omega (arith, e.1, length-append s more)), e.0)

-- The beginning of a spelling is short.
pub reads_begin : (bytes : List ℕ) → AreBytes bytes → BeginsSpelling bytes → answer bytes ≡ decoded.Short
reads_begin bytes fits b =
    elim (answers bytes fits) [
      | inl e ↦
          let c = found (bytes ++ b.more) bytes b.form b.spells (agrees_begin bytes b.more) in
          absurd (not_undefined c.total (length bytes) c.form (omega (arith, c.least, b.spells.size)) (sym c.is ∙ e))
      | inr x ↦
          elim x [
            | inl f ↦
                let parts : bytes ++ b.more ≡ take f.size bytes ++ (drop f.size bytes ++ b.more) = ap (λ (s : List ℕ). s ++ b.more) (sym (take-append-drop f.size bytes)) ∙ append_assoc (take f.size bytes) (drop f.size bytes) b.more in
                let o = one_spelling (take f.size bytes) (drop f.size bytes ++ b.more) f.form b.form f.spells (subst (λ (s : List ℕ). Spells s b.form) parts b.spells) in
                absurd (omega (arith, ap length o.0, length-append (drop f.size bytes) b.more, b.some))
            | inr s ↦ s.is
          ]
    ]

-- ---- each answer exactly where it is due

form_short : (f : Form) (n : ℕ) → decoded.Form f n ≡ decoded.Short → ⊥
form_short f n e = cc

is_form_of : (bytes : List ℕ) → AreBytes bytes → (f : Form) (n : ℕ) → answer bytes ≡ decoded.Form f n → (n ≤ length bytes) × Spells (take n bytes) f
is_form_of bytes fits f n e =
    elim (answers bytes fits) [
      | inl u ↦ absurd (undefined_form f n (sym e ∙ u))
      | inr x ↦
          elim x [
            | inl g ↦
                let same = form_is g.form f g.size n (sym g.is ∙ e) in
                (omega (arith, same.1, g.within), subst (λ (k : ℕ). Spells (take k bytes) f) same.1 (subst (λ (h : Form). Spells (take g.size bytes) h) same.0 g.spells))
            | inr s ↦ absurd (form_short f n (sym e ∙ s.is))
          ]
    ]

is_short_of : (bytes : List ℕ) → AreBytes bytes → answer bytes ≡ decoded.Short → BeginsSpelling bytes
is_short_of bytes fits e =
    elim (answers bytes fits) [
      | inl u ↦ absurd (undefined_short (sym e ∙ u))
      | inr x ↦
          elim x [
            | inl g ↦ absurd (form_short g.form g.size (sym g.is ∙ e))
            | inr s ↦ s.begins
          ]
    ]

pub form_due : (bytes : List ℕ) → AreBytes bytes → (f : Form) (n : ℕ) → (answer bytes ≡ decoded.Form f n) ↔ ((n ≤ length bytes) × Spells (take n bytes) f)
form_due bytes fits f n = (λ (e : answer bytes ≡ decoded.Form f n). is_form_of bytes fits f n e, λ (h : (n ≤ length bytes) × Spells (take n bytes) f). reads_front bytes n f h.0 h.1)

pub short_due : (bytes : List ℕ) → AreBytes bytes → (answer bytes ≡ decoded.Short) ↔ BeginsSpelling bytes
short_due bytes fits = (λ (e : answer bytes ≡ decoded.Short). is_short_of bytes fits e, λ (h : BeginsSpelling bytes). reads_begin bytes fits h)

neither : (bytes : List ℕ) → (answer bytes ≡ decoded.Undefined) ⊎ (IsForm bytes ⊎ IsShort bytes) → SpellsNothing bytes → answer bytes ≡ decoded.Undefined
neither bytes (inl e) h = e
neither bytes (inr (inl f)) h = absurd (h.0 f.form f.size (f.within, f.spells))
neither bytes (inr (inr s)) h = absurd (h.1 s.begins)

pub undefined_due : (bytes : List ℕ) → AreBytes bytes → (answer bytes ≡ decoded.Undefined) ↔ SpellsNothing bytes
undefined_due bytes fits = (
  λ (e : answer bytes ≡ decoded.Undefined). (λ (f : Form) (n : ℕ) (h : BeginsWith bytes f n). undefined_form f n (sym (reads_front bytes n f h.0 h.1) ∙ e), λ (h : BeginsSpelling bytes). undefined_short (sym (reads_begin bytes fits h) ∙ e)),
  λ (h : SpellsNothing bytes). neither bytes (answers bytes fits) h,
)

-- ---- of the bytes at most 15 count

take_take : (n k : ℕ) (bytes : List ℕ) → n ≤ k → take n (take k bytes) ≡ take n bytes
take_take zero k bytes h = refl
take_take (suc n) zero bytes h = absurd (omega arith)
take_take (suc n) (suc k) [] h = refl
take_take (suc n) (suc k) (b ∷ bytes) h = ap (λ (s : List ℕ). b ∷ s) (take_take n k bytes (omega arith))

take_short : (k : ℕ) (bytes : List ℕ) → length bytes ≤ k → take k bytes ≡ bytes
take_short zero [] h = refl
take_short zero (b ∷ bytes) h = absurd (omega arith)
take_short (suc k) [] h = refl
take_short (suc k) (b ∷ bytes) h = ap (λ (s : List ℕ). b ∷ s) (take_short k bytes (omega arith))

take_bytes : (k : ℕ) (bytes : List ℕ) → AreBytes bytes → AreBytes (take k bytes)
take_bytes k bytes fits = bytes_front (take k bytes) (drop k bytes) (subst AreBytes (sym (take-append-drop k bytes)) fits)

size_at : (bytes : List ℕ) (f : Form) (n : ℕ) → BeginsWith bytes f n → n ≤ 15
size_at bytes f n h = omega (arith, h.0, h.1.size, length-take n bytes)

within_first : (bytes : List ℕ) (f : Form) (n : ℕ) → BeginsWith bytes f n → BeginsWith (take 15 bytes) f n
within_first bytes f n h = (omega (arith, h.0, size_at bytes f n h, length-take 15 bytes), subst (λ (s : List ℕ). Spells s f) (sym (take_take n 15 bytes (size_at bytes f n h))) h.1)

within_all : (bytes : List ℕ) (f : Form) (n : ℕ) → BeginsWith (take 15 bytes) f n → BeginsWith bytes f n
within_all bytes f n h = (omega (arith, h.0, length-take 15 bytes), subst (λ (s : List ℕ). Spells s f) (take_take n 15 bytes (size_at (take 15 bytes) f n h)) h.1)

-- bytes that begin a spelling are fewer than 15
begins_few : (bytes : List ℕ) → BeginsSpelling bytes → length bytes ≤ 15
begins_few bytes b = omega (arith, b.some, b.spells.size, length-append bytes b.more)

first_few : (bytes : List ℕ) → BeginsSpelling (take 15 bytes) → length bytes ≤ 15
first_few bytes b = omega (arith, b.some, b.spells.size, length-append (take 15 bytes) b.more, length-take 15 bytes)

begins_first : (bytes : List ℕ) → BeginsSpelling bytes → BeginsSpelling (take 15 bytes)
begins_first bytes b = subst BeginsSpelling (sym (take_short 15 bytes (begins_few bytes b))) b

begins_all : (bytes : List ℕ) → BeginsSpelling (take 15 bytes) → BeginsSpelling bytes
begins_all bytes b = subst BeginsSpelling (take_short 15 bytes (first_few bytes b)) b

pub form_decided : (bytes : List ℕ) → AreBytes bytes → (f : Form) (n : ℕ) → (decode_of bytes ≡ decoded.Form f n) ↔ BeginsWith bytes f n
unfolding decode_of
form_decided bytes fits f n =
    let d = form_due (take 15 bytes) (take_bytes 15 bytes fits) f n in
    (λ (e : answer (take 15 bytes) ≡ decoded.Form f n). within_all bytes f n (d.0 e), λ (h : BeginsWith bytes f n). d.1 (within_first bytes f n h))

pub short_decided : (bytes : List ℕ) → AreBytes bytes → (decode_of bytes ≡ decoded.Short) ↔ BeginsSpelling bytes
unfolding decode_of
short_decided bytes fits =
    let d = short_due (take 15 bytes) (take_bytes 15 bytes fits) in
    (λ (e : answer (take 15 bytes) ≡ decoded.Short). begins_all bytes (d.0 e), λ (h : BeginsSpelling bytes). d.1 (begins_first bytes h))

pub undefined_decided : (bytes : List ℕ) → AreBytes bytes → (decode_of bytes ≡ decoded.Undefined) ↔ SpellsNothing bytes
unfolding decode_of
undefined_decided bytes fits =
    let d = undefined_due (take 15 bytes) (take_bytes 15 bytes fits) in (
      λ (e : answer (take 15 bytes) ≡ decoded.Undefined). let s = d.0 e in (λ (f : Form) (n : ℕ) (h : BeginsWith bytes f n). s.0 f n (within_first bytes f n h), λ (h : BeginsSpelling bytes). s.1 (begins_first bytes h)),
      λ (h : SpellsNothing bytes). d.1 (λ (f : Form) (n : ℕ) (k : BeginsWith (take 15 bytes) f n). h.0 f n (within_all bytes f n k), λ (k : BeginsSpelling (take 15 bytes)). h.1 (begins_all bytes k)),
    )

-- what stands at the front, where there is a form
pub form_found : (bytes : List ℕ) → AreBytes bytes → (f : Form) (n : ℕ) → decode_of bytes ≡ decoded.Form f n → BeginsWith bytes f n
form_found bytes fits f n e = (form_decided bytes fits f n).0 e
