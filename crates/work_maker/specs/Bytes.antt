-- The instructions of both images, as bytes (Intel 80386 manual, chapter 17), and what both images are made of.
use Rattle.std.specs.Prelude.{ℕ, List, ◌∷◌, length}
use Rattle.std.specs.Int.{w32, to_le_bytes}
use Rattle.elf_loader.specs.declared.image.Segment.{Segment}

-- four bytes, the lowest first
abbrev pub word : ℕ → List ℕ
word n = to_le_bytes w32 n

-- B8+rd id: MOV r32, imm32; a number stands in the four bytes behind the first
abbrev pub mov_ecx : ℕ → List ℕ
mov_ecx n = 0xB9 ∷ word n

abbrev pub mov_edx : ℕ → List ℕ
mov_edx n = 0xBA ∷ word n

abbrev pub mov_ebx : ℕ → List ℕ
mov_ebx n = 0xBB ∷ word n

abbrev pub mov_esi : ℕ → List ℕ
mov_esi n = 0xBE ∷ word n

-- the bytes of a segment from an address on: it has no zeros behind them
abbrev pub segment_at : ℕ → List ℕ → Segment
segment_at place bytes = record { place = place; size = length bytes; bytes = bytes }
