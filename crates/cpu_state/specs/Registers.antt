-- The registers by name, and at the start of an activity (Intel 80386 manual, section 2.3).
use Rattle.std.specs.Prelude.{ℕ, Bool, [], ◌∷◌, slice_index, slice_set}
use Rattle.cpu_state.specs.declared.registers.Registers.{Registers}
use Rattle.cpu_state.specs.Eflags.{flags_of, with_interrupt}

-- the general registers
abbrev pub eax : Registers → ℕ
eax r = slice_index r.general 0

abbrev pub ecx : Registers → ℕ
ecx r = slice_index r.general 1

abbrev pub edx : Registers → ℕ
edx r = slice_index r.general 2

abbrev pub ebx : Registers → ℕ
ebx r = slice_index r.general 3

abbrev pub esp : Registers → ℕ
esp r = slice_index r.general 4

abbrev pub ebp : Registers → ℕ
ebp r = slice_index r.general 5

abbrev pub esi : Registers → ℕ
esi r = slice_index r.general 6

abbrev pub edi : Registers → ℕ
edi r = slice_index r.general 7

-- another EAX, or ESP
abbrev pub with_eax : ℕ → Registers → Registers
with_eax x r = record r { general = slice_set r.general 0 x }

abbrev pub with_esp : ℕ → Registers → Registers
with_esp x r = record r { general = slice_set r.general 4 x }

-- another EIP
abbrev pub at_eip : ℕ → Registers → Registers
at_eip x r = record r { eip = x }

-- ESP and EIP as given, EFLAGS 2 and all else 0
abbrev pub first_registers : ℕ → ℕ → Registers
first_registers eip esp = record { general = 0 ∷ 0 ∷ 0 ∷ 0 ∷ esp ∷ 0 ∷ 0 ∷ 0 ∷ []; eip = eip; eflags = flags_of 2 }

-- an activity that begins at an address: EAX is its argument, ESP its stack, EFLAGS is 2 but for the interrupt flag, and all else is 0
unfoldable pub starting : ℕ → ℕ → ℕ → Bool → Registers
starting at argument stack interrupt = record {
  general = argument ∷ 0 ∷ 0 ∷ 0 ∷ stack ∷ 0 ∷ 0 ∷ 0 ∷ [];
  eip = at;
  eflags = with_interrupt interrupt (flags_of 2);
}
