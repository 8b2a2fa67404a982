-- What the names of the registers give, by computation.
use Rattle.std.proofs.Common.{◌≡◌, ℕ, true, refl, [], ◌∷◌}
use Rattle.cpu_state.specs.Eflags.{flags_of}
use Rattle.cpu_state.specs.Registers.{eax, ecx, edx, ebx, esp, ebp, esi, edi, with_eax, with_esp, at_eip, starting}
use Rattle.cpu_state.specs.declared.registers.Registers.{Registers}

-- EAX, ECX, EDX, EBX, ESP, EBP, ESI and EDI are 10 to 17
numbered : Registers
numbered = record { general = 10 ∷ 11 ∷ 12 ∷ 13 ∷ 14 ∷ 15 ∷ 16 ∷ 17 ∷ []; eip = 0; eflags = flags_of 2 }

names : eax numbered ∷ ecx numbered ∷ edx numbered ∷ ebx numbered ∷ esp numbered ∷ ebp numbered ∷ esi numbered ∷ edi numbered ∷ [] ≡ 10 ∷ 11 ∷ 12 ∷ 13 ∷ 14 ∷ 15 ∷ 16 ∷ 17 ∷ []
unfolding numbered
names = refl

result_is_in_eax : (with_eax 5 numbered).general ≡ 5 ∷ 11 ∷ 12 ∷ 13 ∷ 14 ∷ 15 ∷ 16 ∷ 17 ∷ []
unfolding numbered
result_is_in_eax = refl

stack_is_at_esp : (with_esp 5 numbered).general ≡ 10 ∷ 11 ∷ 12 ∷ 13 ∷ 5 ∷ 15 ∷ 16 ∷ 17 ∷ []
unfolding numbered
stack_is_at_esp = refl

-- an activity that begins at 11000h with EAX 7, ESP 12000h and the interrupt flag set
begins : Registers
begins = starting 0x11000 7 0x12000 true

its_eip : begins.eip ≡ 0x11000
unfolding begins starting
its_eip = refl

its_argument : eax begins ≡ 7
unfolding begins starting
its_argument = refl

its_stack : esp begins ≡ 0x12000
unfolding begins starting
its_stack = refl

its_flag : begins.eflags.interrupt ≡ true
unfolding begins starting
its_flag = refl

goes_on_at : (at_eip 0x11005 begins).eip ≡ 0x11005
goes_on_at = refl
