-- An ELF32 file for the i386: its file header, its program headers, and the image that it holds (ELF specification 1.2, "ELF Header" and "Program Header"; i386 supplement).
use Rattle.std.specs.Prelude.{ℕ, zero, suc, ◌+◌, ◌*◌, ◌==◌, ◌&&◌, ◌||◌, Bool, not, List, [], ◌∷◌, length, take, drop, ◌++◌, slice_index, nat_lt, nat_le, if◌then◌else◌, Option, Some, None, Result, Ok, Err}
use Rattle.std.specs.Option.{option_or}
use Rattle.byteorder.specs.Endian.{little_number}
use Rattle.elf_loader.specs.declared.header.ProgramHeader.{ProgramHeader}
use Rattle.elf_loader.specs.declared.image.Image.{Image}
use Rattle.elf_loader.specs.declared.image.Segment.{Segment}

-- Elf32_Word, Elf32_Addr and Elf32_Off have four bytes, Elf32_Half two, the lowest first
unfoldable pub file_word : ℕ → List ℕ → ℕ
file_word at bytes = little_number 4 (drop at bytes)

unfoldable pub file_half : ℕ → List ℕ → ℕ
file_half at bytes = little_number 2 (drop at bytes)

-- The file header, 52 bytes

abbrev pub e_type : List ℕ → ℕ
e_type = file_half 16

abbrev pub e_machine : List ℕ → ℕ
e_machine = file_half 18

abbrev pub e_version : List ℕ → ℕ
e_version = file_word 20

abbrev pub e_entry : List ℕ → ℕ
e_entry = file_word 24

abbrev pub e_phoff : List ℕ → ℕ
e_phoff = file_word 28

abbrev pub e_phentsize : List ℕ → ℕ
e_phentsize = file_half 42

abbrev pub e_phnum : List ℕ → ℕ
e_phnum = file_half 44

-- EI_MAG0 to EI_MAG3: 7Fh and ELF
unfoldable pub has_magic : List ℕ → Bool
has_magic bytes = (slice_index bytes 0 == 0x7F && slice_index bytes 1 == 0x45) && (slice_index bytes 2 == 0x4C && slice_index bytes 3 == 0x46)

-- EI_CLASS and EI_DATA: ELFCLASS32 and ELFDATA2LSB
abbrev pub has_right_class : List ℕ → Bool
has_right_class bytes = slice_index bytes 4 == 1 && slice_index bytes 5 == 1

-- at most 64 program headers, and where there are any, of 32 bytes each, all in the file
unfoldable pub has_good_table : List ℕ → Bool
has_good_table bytes = nat_le (e_phnum bytes) 64
    && (e_phnum bytes == 0 || (e_phentsize bytes == 32 && nat_le (e_phoff bytes + 32 * e_phnum bytes) (length bytes)))

-- the rules 1 to 6, of which the first that is broken counts; ET_EXEC is 2, EM_386 is 3, EV_CURRENT is 1
unfoldable pub header_fault : List ℕ → Option ℕ
header_fault bytes =
    if nat_lt (length bytes) 52 then Some 1
    else if not (has_magic bytes) then Some 2
    else if not (has_right_class bytes) then Some 3
    else if not (e_type bytes == 2) then Some 4
    else if not (e_machine bytes == 3 && e_version bytes == 1) then Some 5
    else if not (has_good_table bytes) then Some 6
    else None

-- The program headers, 32 bytes each

unfoldable pub header_at : ℕ → List ℕ → ProgramHeader
header_at at bytes = record {
  p_type = file_word at bytes;
  p_offset = file_word (at + 4) bytes;
  p_vaddr = file_word (at + 8) bytes;
  p_filesz = file_word (at + 16) bytes;
  p_memsz = file_word (at + 20) bytes;
}

abbrev pub headers_from : ℕ → ℕ → List ℕ → List ProgramHeader
headers_from at zero bytes = []
headers_from at (suc n) bytes = header_at at bytes ∷ headers_from (at + 32) n bytes

unfoldable pub headers : List ℕ → List ProgramHeader
headers bytes = headers_from (e_phoff bytes) (e_phnum bytes) bytes

-- PT_LOAD is 1, PT_INTERP is 3
abbrev pub is_loaded : ProgramHeader → Bool
is_loaded h = h.p_type == 1

-- the rules 7 to 9, in a file of so many bytes
unfoldable pub program_header_fault : ℕ → ProgramHeader → Option ℕ
program_header_fault size h =
    if is_loaded h && nat_lt size (h.p_offset + h.p_filesz) then Some 7
    else if is_loaded h && nat_lt h.p_memsz h.p_filesz then Some 8
    else if h.p_type == 3 then Some 9
    else None

-- that of the first bad header
abbrev pub first_fault : ℕ → List ProgramHeader → Option ℕ
first_fault size [] = None
first_fault size (h ∷ hs) = option_or (program_header_fault size h) (first_fault size hs)

-- The image

-- the segment of a header, where it loads something
unfoldable pub segment_of : List ℕ → ProgramHeader → List Segment
segment_of bytes h = if is_loaded h && nat_lt 0 h.p_memsz
    then record { place = h.p_vaddr; size = h.p_memsz; bytes = take h.p_filesz (drop h.p_offset bytes) } ∷ [] else []

abbrev pub segments_of : List ℕ → List ProgramHeader → List Segment
segments_of bytes [] = []
segments_of bytes (h ∷ hs) = segment_of bytes h ++ segments_of bytes hs

-- the first rule that a file breaks
abbrev pub fault_of : List ℕ → Option ℕ
fault_of bytes = option_or (header_fault bytes) (first_fault (length bytes) (headers bytes))

abbrev pub unless : Option ℕ → Image → Result Image ℕ
unless None image = Ok image
unless (Some k) image = Err k

-- the image that a file holds, or the first rule that it breaks
unfoldable pub image_of : List ℕ → Result Image ℕ
image_of bytes = unless (fault_of bytes) (record { entry = e_entry bytes; segments = segments_of bytes (headers bytes) })
