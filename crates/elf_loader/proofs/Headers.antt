-- The program headers, one after another.
use Rattle.std.proofs.Common.{◌≡◌, ℕ, suc, ◌+◌, ◌-◌, ◌*◌, ◌<◌, ◌≤◌, List, [], ◌∷◌, ◌++◌, length, arith, refl, Option, Some, None, Ok, Err, true}
use Rattle.std.proofs.lemmas.Bool.Decides.{nat_tests}
use Rattle.std.proofs.lemmas.List.{append_assoc}
use Rattle.std.specs.Option.{option_or}
use Rattle.elf_loader.specs.File.{header_at, headers_from, headers, first_fault, program_header_fault, segments_of, segment_of, header_fault, has_good_table, is_loaded, e_phoff, e_phnum, image_of, file_word}
use Rattle.elf_loader.specs.Answers.{ReadsImage, Tests, HasTable}
use Rattle.elf_loader.specs.declared.image.ElfRefusal.{ElfRefusal}
use Rattle.elf_loader.specs.declared.image.ElfRefusal.TheVariants.{Bad, NoMemory}
use Rattle.elf_loader.specs.declared.header.ProgramHeader.{ProgramHeader}
use Rattle.elf_loader.specs.declared.image.Segment.{Segment}
use Rattle.std.proofs.Common.{take, drop, length-take, nat_lt, ◌&&◌, inl, inr}
use Rattle.std.proofs.lemmas.Bool.{cases_Bool}
use Rattle.std.specs.Prelude.{All}
use Rattle.std.proofs.lemmas.List.Elements.{All-push, All-nil, All-append}
use Rattle.elf_loader.specs.Place.{FitsSize}

pub headers-step : (t n i : ℕ) (bytes : List ℕ) → i < n
    → headers_from (t + 32 * i) (n - i) bytes ≡ header_at (t + 32 * i) bytes ∷ headers_from (t + 32 * (i + 1)) (n - (i + 1)) bytes
headers-step t n i bytes h =
    let a : t + 32 * (i + 1) ≡ (t + 32 * i) + 32 = omega arith in
    let b : n - i ≡ suc (n - (i + 1)) = omega arith in
    rw (a, b) refl

-- a header that is no fault, before others
pub fault-later : (len : ℕ) (h : ProgramHeader) (hs : List ProgramHeader) → program_header_fault len h ≡ None → first_fault len (h ∷ hs) ≡ first_fault len hs
fault-later len h hs e = rw e refl

either : (a b : Option ℕ) → option_or a b ≡ None → (a ≡ None) × (b ≡ None)
either None b h = (refl, h)
either (Some k) b h = absurd cc

-- where none of some headers is bad, neither the first nor one of the others is
pub none-bad : (len : ℕ) (h : ProgramHeader) (hs : List ProgramHeader) → first_fault len (h ∷ hs) ≡ None → (program_header_fault len h ≡ None) × (first_fault len hs ≡ None)
none-bad len h hs e = either (program_header_fault len h) (first_fault len hs) e

-- the segments so far, with those of the next header
pub segments-more : (bytes : List ℕ) (so_far : List Segment) (h : ProgramHeader) (hs : List ProgramHeader)
    → (so_far ++ segment_of bytes h) ++ segments_of bytes hs ≡ so_far ++ segments_of bytes (h ∷ hs)
segments-more bytes so_far h hs = append_assoc so_far (segment_of bytes h) (segments_of bytes hs)

-- a good file header
pub good_table : (bytes : List ℕ) → 52 ≤ length bytes → has_good_table bytes ≡ true → HasTable bytes
unfolding has_good_table
good_table bytes long h = record {
  long = long;
  few = grind (arith, nat_tests);
  inside = λ some. grind (arith, nat_tests);
}

pub bad_file : (bytes : List ℕ) (k : ℕ) → header_fault bytes ≡ Some k → image_of bytes ≡ Err k
unfolding image_of
bad_file bytes k e = rw e refl

pub bad_header : (bytes : List ℕ) (k : ℕ) → header_fault bytes ≡ None → first_fault (length bytes) (headers_from (e_phoff bytes) (e_phnum bytes) bytes) ≡ Some k
    → image_of bytes ≡ Err k
unfolding image_of headers
bad_header bytes k e f = rw (e, f) refl

pub good_file : (bytes : List ℕ) (segments : List Segment) → header_fault bytes ≡ None
    → first_fault (length bytes) (headers_from (e_phoff bytes) (e_phnum bytes) bytes) ≡ None
    → segments ≡ segments_of bytes (headers_from (e_phoff bytes) (e_phnum bytes) bytes)
    → image_of bytes ≡ Ok (record { entry = file_word 24 bytes; segments = segments })
unfolding image_of headers
good_file bytes segments e f s = rw (e, f, s) refl

-- the exits of the reader
pub file_exit : (bytes : List ℕ) (e : ElfRefusal) → Tests (Err e) (header_fault bytes) → ReadsImage (Err e) (image_of bytes)
file_exit bytes (Bad k) h = bad_file bytes k h
file_exit bytes NoMemory h = tt

pub header_exit : (bytes : List ℕ) (e : ElfRefusal) → header_fault bytes ≡ None
    → Tests (Err e) (first_fault (length bytes) (headers_from (e_phoff bytes) (e_phnum bytes) bytes)) → ReadsImage (Err e) (image_of bytes)
header_exit bytes (Bad k) h f = bad_header bytes k h f
header_exit bytes NoMemory h f = tt

-- what is loaded has no more bytes than its size
one_fits : (bytes : List ℕ) (h : ProgramHeader) → program_header_fault (length bytes) h ≡ None → All FitsSize (segment_of bytes h)
unfolding program_header_fault segment_of
one_fits bytes h e = elim (cases_Bool (is_loaded h && nat_lt 0 h.p_memsz)) [
  | inl loaded ↦
      let short : h.p_filesz ≤ h.p_memsz = grind (arith, nat_tests) in
      let fits : FitsSize (record { place = h.p_vaddr; size = h.p_memsz; bytes = take h.p_filesz (drop h.p_offset bytes) }) = omega (arith, length-take h.p_filesz (drop h.p_offset bytes)) in
      rw loaded (All-push FitsSize [] _ (All-nil FitsSize) fits)
  | inr not_loaded ↦ rw not_loaded (All-nil FitsSize)
]

all_fit : (bytes : List ℕ) (hs : List ProgramHeader) → first_fault (length bytes) hs ≡ None → All FitsSize (segments_of bytes hs)
all_fit bytes [] e = All-nil FitsSize
all_fit bytes (h ∷ hs) e =
    let parts = none-bad (length bytes) h hs e in
    All-append FitsSize (segment_of bytes h) (segments_of bytes hs) (one_fits bytes h parts.0) (all_fit bytes hs parts.1)

pub read_fits : (bytes : List ℕ) (segments : List Segment) → first_fault (length bytes) (headers_from (e_phoff bytes) (e_phnum bytes) bytes) ≡ None
    → segments ≡ segments_of bytes (headers_from (e_phoff bytes) (e_phnum bytes) bytes) → All FitsSize segments
read_fits bytes segments f s = rw s (all_fit bytes _ f)
