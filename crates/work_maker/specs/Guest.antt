-- The guest: it loads its descriptor table, clears its mask, sets its timer, sets its flag, and counts; its one handler counts its entries.
use Rattle.std.specs.Prelude.{ℕ, zero, suc, ◌++◌, List, [], ◌∷◌}
use Rattle.elf_loader.specs.declared.image.Image.{Image}
use Rattle.work_maker.specs.Draws.{guest_period}
use Rattle.work_maker.specs.Bytes.{mov_ebx, segment_at}

-- the start, at 1000h

-- b801000000 bb00300000 b940000000 cdf6: MOV EAX, 1, MOV EBX, 3000h, MOV ECX, 40h, INT F6h: the descriptor table
abbrev pub load_table : List ℕ
load_table = 0xB8 ∷ 0x01 ∷ 0x00 ∷ 0x00 ∷ 0x00 ∷ 0xBB ∷ 0x00 ∷ 0x30 ∷ 0x00 ∷ 0x00 ∷ 0xB9 ∷ 0x40 ∷ 0x00 ∷ 0x00 ∷ 0x00 ∷ 0xCD ∷ 0xF6 ∷ []

-- b802000000 31db cdf6: MOV EAX, 2, XOR EBX, EBX, INT F6h: the mask, without a line
abbrev pub clear_mask : List ℕ
clear_mask = 0xB8 ∷ 0x02 ∷ 0x00 ∷ 0x00 ∷ 0x00 ∷ 0x31 ∷ 0xDB ∷ 0xCD ∷ 0xF6 ∷ []

-- b803000000: MOV EAX, 3, the period of the timer
abbrev pub mov_eax_3 : List ℕ
mov_eax_3 = 0xB8 ∷ 0x03 ∷ 0x00 ∷ 0x00 ∷ 0x00 ∷ []

-- cdf6: INT F6h; cdf1: INT F1h, which sets the flag
abbrev pub int_f6 : List ℕ
int_f6 = 0xCD ∷ 0xF6 ∷ []

abbrev pub int_f1 : List ℕ
int_f1 = 0xCD ∷ 0xF1 ∷ []

-- ff0500200000 ebf8: INC dword [2000h], JMP to that INC
abbrev pub count_on : List ℕ
count_on = 0xFF ∷ 0x05 ∷ 0x00 ∷ 0x20 ∷ 0x00 ∷ 0x00 ∷ 0xEB ∷ 0xF8 ∷ []

unfoldable pub guest_code : ℕ → List ℕ
guest_code period = load_table ++ clear_mask ++ mov_eax_3 ++ mov_ebx period ++ int_f6 ++ int_f1 ++ count_on

-- the handler, at 1100h: ff0504200000 cdf2: INC dword [2004h], INT F2h, the return from an interrupt
abbrev pub handler : List ℕ
handler = 0xFF ∷ 0x05 ∷ 0x04 ∷ 0x20 ∷ 0x00 ∷ 0x00 ∷ 0xCD ∷ 0xF2 ∷ []

-- the descriptors, at 3100h, those of the vectors 20h to 2Fh in the table at 3000h: 00110800008e0000, a present interrupt gate
-- to 1100h by selector 8 (Intel 80386 manual, section 9.5)
abbrev pub descriptor : List ℕ
descriptor = 0x00 ∷ 0x11 ∷ 0x08 ∷ 0x00 ∷ 0x00 ∷ 0x8E ∷ 0x00 ∷ 0x00 ∷ []

abbrev pub times : ℕ → List ℕ → List ℕ
times zero bytes = []
times (suc n) bytes = bytes ++ times n bytes

unfoldable pub descriptors : List ℕ
descriptors = times 16 descriptor

-- three segments; the entry is the first byte of the first
abbrev pub guest_image : ℕ → Image
guest_image period = record {
  entry = 0x1000;
  segments = segment_at 0x1000 (guest_code period) ∷ segment_at 0x1100 handler ∷ segment_at 0x3100 descriptors ∷ [];
}

abbrev pub guest_of : ℕ → Image
guest_of number = guest_image (guest_period number)
