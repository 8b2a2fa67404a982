-- The guest's gates, INT F0h to F6h: each of the first six does to the software flag what its instruction does to the
-- processor's (Intel 80386 manual, chapter 17: CLI, STI, IRET, PUSHF, POPF and HLT), and the last is a call of the executive.
use Rattle.std.specs.Prelude.{ℕ, ◌+◌, ◌%◌, ◌^◌, ◌==◌, Bool, true, false, not, if◌then◌else◌, Option, Some, None}
use Rattle.memory_model.specs.Side.{Side, inside, loaded, word_stored}
use Rattle.cpu_state.specs.Eflags.{bit, flags_of, with_interrupt}
use Rattle.cpu_state.specs.Registers.{esp, with_esp, at_eip}
use Rattle.cpu_state.specs.declared.eflags.Eflags.{Eflags}
use Rattle.cpu_state.specs.declared.registers.Access.TheVariants.{Load, Store}
use Rattle.cpu_state.specs.declared.registers.Registers.{Registers}
use Rattle.soft_entry.specs.Entry.{below, flags_word}
use Rattle.soft_flags.specs.declared.flags.SoftFlags.{SoftFlags}
use Rattle.soft_gates.specs.Outcome.{GateOutcome, Finishes, Halts, AccessOutside}
use Rattle.soft_gates.specs.Service.{Served, unshadowed, service}

-- what a gate comes to, and what it leaves
pub record Gated : Type 0 where
  pub came : GateOutcome
  pub registers : Registers
  pub flags : SoftFlags
  pub side : Side

abbrev pub finished : Registers → SoftFlags → Side → Gated
finished r f side = record { came = Finishes; registers = r; flags = f; side = side }

-- an access outside changes nothing
abbrev pub unchanged : GateOutcome → Registers → SoftFlags → Side → Gated
unchanged came r f side = record { came = came; registers = r; flags = f; side = side }

abbrev pub with_flag : Bool → SoftFlags → SoftFlags
with_flag flag f = record f { flag = flag; shadow = false }

-- n bytes above the top of the stack
abbrev pub above : Registers → ℕ → ℕ
above r n = (esp r + n) % 2 ^ 32

-- EFLAGS of a popped word, of which bit 9 goes to the software flag
abbrev pub popped_flags : ℕ → Eflags
popped_flags word = with_interrupt false (flags_of word)

-- F0 and F1. The shadow stands where the flag was clear
abbrev pub cli : ℕ → Registers → SoftFlags → Side → Gated
cli next r f side = finished (at_eip next r) (with_flag false f) side

abbrev pub sti : ℕ → Registers → SoftFlags → Side → Gated
sti next r f side = finished (at_eip next r) (record f { flag = true; shadow = not f.flag }) side

-- F2: EIP, a doubleword that is ignored, and EFLAGS are popped
abbrev pub iret_by : Option ℕ → Option ℕ → Option ℕ → Registers → SoftFlags → Side → Gated
iret_by None segment word r f side = unchanged (AccessOutside Load (esp r)) r f side
iret_by (Some eip) None word r f side = unchanged (AccessOutside Load (above r 4)) r f side
iret_by (Some eip) (Some segment) None r f side = unchanged (AccessOutside Load (above r 8)) r f side
iret_by (Some eip) (Some segment) (Some word) r f side =
    finished (record (with_esp (above r 12) r) { eip = eip; eflags = popped_flags word }) (with_flag (bit word 9) f) side

abbrev pub iret : Registers → SoftFlags → Side → Gated
iret r f side = iret_by (loaded side (esp r) 4) (loaded side (above r 4) 4) (loaded side (above r 8) 4) r f side

-- F3 and F4: EFLAGS is pushed with bit 9 equal to the flag, and popped
abbrev pub pushf : ℕ → Registers → SoftFlags → Side → Gated
pushf next r f side = let at = below (esp r) 4 in
    if inside side at 4 then finished (at_eip next (with_esp at r)) (unshadowed f) (word_stored side at 4 (flags_word f.flag r.eflags))
    else unchanged (AccessOutside Store at) r f side

abbrev pub popf_by : Option ℕ → ℕ → Registers → SoftFlags → Side → Gated
popf_by None next r f side = unchanged (AccessOutside Load (esp r)) r f side
popf_by (Some word) next r f side =
    finished (record (with_esp (above r 4) r) { eip = next; eflags = popped_flags word }) (with_flag (bit word 9) f) side

abbrev pub popf : ℕ → Registers → SoftFlags → Side → Gated
popf next r f side = popf_by (loaded side (esp r) 4) next r f side

-- F5
abbrev pub hlt : ℕ → Registers → SoftFlags → Side → Gated
hlt next r f side = record { came = Halts; registers = at_eip next r; flags = unshadowed f; side = side }

-- F6: a call of the executive
abbrev pub served : Served → Side → Gated
served s side = record { came = s.came; registers = s.registers; flags = s.flags; side = side }

-- the gate of a number, F0h to F6h
unfoldable pub gated : ℕ → ℕ → ℕ → Registers → SoftFlags → Side → Gated
gated number next now r f side =
    if number == 0xf0 then cli next r f side
    else if number == 0xf1 then sti next r f side
    else if number == 0xf2 then iret r f side
    else if number == 0xf3 then pushf next r f side
    else if number == 0xf4 then popf next r f side
    else if number == 0xf5 then hlt next r f side
    else served (service side next now r f) side
