-- The module: its init makes eight periodic threads, and each thread counts down its work and waits for its next period.
use Rattle.std.specs.Prelude.{ℕ, ◌+◌, ◌*◌, ◌++◌, List, [], ◌∷◌}
use Rattle.elf_loader.specs.declared.image.Image.{Image}
use Rattle.work_maker.specs.declared.draws.Thread.{Thread}
use Rattle.work_maker.specs.Draws.{threads}
use Rattle.work_maker.specs.Bytes.{mov_ebx, mov_ecx, mov_edx, mov_esi, segment_at}

-- G, the size of the guest's side, at which the real-time side begins, and R, the size of that
abbrev pub guest_size : ℕ
guest_size = 1048576

abbrev pub real_time_size : ℕ
real_time_size = 262144

-- the init, at G + 1000h

-- b802000000: MOV EAX, 2, the gate that makes a thread
abbrev pub mov_eax_2 : List ℕ
mov_eax_2 = 0xB8 ∷ 0x02 ∷ 0x00 ∷ 0x00 ∷ 0x00 ∷ []

-- cdf8: INT F8h, the gates of real-time activities
abbrev pub int_f8 : List ℕ
int_f8 = 0xCD ∷ 0xF8 ∷ []

-- 89c3: MOV EBX, EAX, the number of the thread that was made
abbrev pub mov_ebx_eax : List ℕ
mov_ebx_eax = 0x89 ∷ 0xC3 ∷ []

-- b806000000: MOV EAX, 6, the gate that makes a thread periodic
abbrev pub mov_eax_6 : List ℕ
mov_eax_6 = 0xB8 ∷ 0x06 ∷ 0x00 ∷ 0x00 ∷ 0x00 ∷ []

-- makes thread i, with its entry in EBX, its priority in ECX, the top of its stack in EDX and its work in ESI
abbrev pub making_of : ℕ → Thread → List ℕ
making_of i t =
    mov_eax_2 ++ mov_ebx (guest_size + 0x1171) ++ mov_ecx t.priority ++ mov_edx (guest_size + 0x20000 + 0x1000 * (i + 1)) ++ mov_esi t.work ++ int_f8

-- makes it periodic, with its first due in ECX and its period in EDX
abbrev pub timing_of : ℕ → Thread → List ℕ
timing_of i t = mov_ebx_eax ++ mov_eax_6 ++ mov_ecx (1000 + i) ++ mov_edx t.period ++ int_f8

-- these for each thread, from number i on
abbrev pub starts_from : ℕ → List Thread → List ℕ
starts_from i [] = []
starts_from i (t ∷ ts) = making_of i t ++ timing_of i t ++ starts_from (i + 1) ts

-- c3: RET, the end of the init
abbrev pub ret : List ℕ
ret = 0xC3 ∷ []

-- the threads, at G + 1171h: MOV EDI, EAX (89c7), the work; MOV ECX, EDI (89f9); DEC ECX (49); JNZ to that DEC (75fd);
-- MOV EAX, 7 (b807000000), the gate that waits for the next period; INT F8h (cdf8); JMP to the second MOV (ebf2)
abbrev pub work_loop : List ℕ
work_loop = 0x89 ∷ 0xC7 ∷ 0x89 ∷ 0xF9 ∷ 0x49 ∷ 0x75 ∷ 0xFD ∷ 0xB8 ∷ 0x07 ∷ 0x00 ∷ 0x00 ∷ 0x00 ∷ 0xCD ∷ 0xF8 ∷ 0xEB ∷ 0xF2 ∷ []

unfoldable pub module_code : ℕ → List ℕ
module_code number = starts_from 0 (threads number) ++ ret ++ work_loop

-- one segment, whose first byte is the entry
abbrev pub module_of : ℕ → Image
module_of number = record { entry = guest_size + 0x1000; segments = segment_at (guest_size + 0x1000) (module_code number) ∷ [] }
