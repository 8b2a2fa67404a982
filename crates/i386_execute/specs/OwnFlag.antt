-- CLI, STI, PUSHF and POPF on the registers' own interrupt flag (Intel 80386 manual, sections 3.8.2 and 10.5, chapter 17).
use Rattle.std.specs.Prelude.{ℕ, Bool, true, false, List, [], ◌∷◌, slice_index}
use Rattle.cpu_state.specs.Bus.{State, Ports}
use Rattle.cpu_state.specs.Eflags.{word_of, flags_of, with_interrupt as with_flag}
use Rattle.cpu_state.specs.Registers.{with_esp}
use Rattle.cpu_state.specs.declared.registers.Privileged.{Privileged}
use Rattle.cpu_state.specs.declared.registers.Privileged.TheVariants as kind
use Rattle.cpu_state.specs.declared.registers.Registers.{Registers}
use Rattle.cpu_state.specs.declared.width.Width.TheVariants.{W32}
use Rattle.i386_effects.specs.Effect.{Effect, effect_of}
use Rattle.i386_effects.specs.Change.{Change}
use Rattle.i386_effects.specs.Change as change
use Rattle.i386_effects.specs.declared.accesses.Touch.{Touch}
use Rattle.i386_execute.specs.Results.{flagged}
use Rattle.i386_execute.specs.Stack.{below, above, top_touches}
use Rattle.i386_execute.specs.Unit.{moved_on}
use Rattle.i386_effects.specs.declared.stepped.Stepped.{Stepped}
use Rattle.i386_effects.specs.declared.stepped.Stepped.TheVariants.{Next, Trap, Interrupt, Privileged as PrivilegedUse, Outside, Port}

-- those that are performed so
abbrev pub is_on_flag : Privileged → Bool
is_on_flag kind.Cli = true
is_on_flag kind.Sti = true
is_on_flag kind.Iret = false
is_on_flag kind.Pushf = true
is_on_flag kind.Popf = true
is_on_flag kind.Hlt = false

-- POPF loads the word at the top of the stack
abbrev pub flag_loads : Privileged → Registers → List Touch
flag_loads kind.Popf r = top_touches W32 r
flag_loads k r = []

-- PUSHF stores EFLAGS below the top of the stack; POPF takes all eight flags from the word
abbrev pub flags_pushed : Registers → Change
flags_pushed r =
    change.Done (with_esp (below r 4) r)
    (record { at = below r 4; width = W32; value = word_of r.eflags } ∷ [])

abbrev pub flags_popped : Registers → List ℕ → Change
flags_popped r ws =
    change.Done (record (with_esp (above r 4) r) { eflags = flags_of (slice_index ws 0) }) []

-- CLI and STI; no interrupt is held off behind STI
abbrev pub with_interrupt : Bool → Registers → Change
with_interrupt b r = flagged r (with_flag b r.eflags)

-- the registers have their EIP behind the instruction already, which has n bytes; IRET and HLT aren't performed so
unfoldable pub flag_change : Privileged → ℕ → Registers → List ℕ → Change
flag_change kind.Cli n r ws = with_interrupt false r
flag_change kind.Sti n r ws = with_interrupt true r
flag_change kind.Pushf n r ws = flags_pushed r
flag_change kind.Popf n r ws = flags_popped r ws
flag_change kind.Iret n r ws = change.Privileged kind.Iret n
flag_change kind.Hlt n r ws = change.Privileged kind.Hlt n

-- what it comes to
unfoldable pub flag_unit : {D : Type 0} → Ports D → Privileged → ℕ → Registers → State D → Effect D
flag_unit ports k n regs st = effect_of ports (flag_loads k (moved_on n regs)) (flag_change k n (moved_on n regs)) regs st

-- performed, or an access outside
abbrev pub IsNextOrOutside : Stepped → Type 0
IsNextOrOutside Next = Unit {0}
IsNextOrOutside (Outside access at) = Unit {0}
IsNextOrOutside (Trap vector) = ⊥
IsNextOrOutside (Interrupt vector) = ⊥
IsNextOrOutside (PrivilegedUse k n) = ⊥
IsNextOrOutside (Port port) = ⊥
