-- The stack (Intel 80386 manual, sections 3.1.2, 3.5.1 and 3.7).
use Rattle.std.specs.Prelude.{ℕ, ◌+◌, ◌-◌, ◌%◌, ◌^◌, List, [], ◌∷◌, Result, Ok, slice_index, slice_set}
use Rattle.memory_model.specs.Side.{Side}
use Rattle.cpu_state.specs.Registers.{esp, ebp, with_esp}
use Rattle.cpu_state.specs.Width.{size}
use Rattle.cpu_state.specs.declared.registers.Registers.{Registers}
use Rattle.cpu_state.specs.declared.width.Width.{Width}
use Rattle.cpu_state.specs.declared.width.Width.TheVariants.{W16, W32}
use Rattle.i386_decode.specs.declared.form.Form.{Form}
use Rattle.i386_decode.specs.declared.form.Operand.{Operand}
use Rattle.i386_decode.specs.declared.form.Operand.TheVariants.{Immediate}
use Rattle.i386_effects.specs.Operands.{value_of, read_of, with_operand, writes_to}
use Rattle.i386_effects.specs.Change.{Change, Done, eight_pushed}
use Rattle.i386_effects.specs.declared.accesses.Touch.{Touch}
use Rattle.i386_execute.specs.Results.{first, with_general}

-- ESP moved down by n bytes, or up, modulo 2^32
abbrev pub below : Registers → ℕ → ℕ
below r n = (esp r + (2 ^ 32 - n)) % 2 ^ 32

abbrev pub above : Registers → ℕ → ℕ
above r n = (esp r + n) % 2 ^ 32

-- PUSH: the old value of ESP too
unfoldable pub pushed : Form → Registers → List ℕ → Change
pushed f r ws =
    Done (with_esp (below r (size f.width)) r)
    (record { at = below r (size f.width); width = f.width; value = first f r ws } ∷ [])

-- PUSHA: EAX first and EDI last, with the old ESP
unfoldable pub all_pushed : Registers → Change
all_pushed r =
    Done (with_esp (below r 32) r)
    (eight_pushed (esp r) r.general)

-- POP
unfoldable pub top_touches : Width → Registers → List Touch
top_touches w r = record { at = esp r; width = w } ∷ []

abbrev pub popped_into : Form → Registers → ℕ → List ℕ → Change
popped_into f r x g = Done (record r { general = with_operand f.width f.first x g }) (writes_to f.width f.first x g)

-- the address of the operand is computed after ESP has moved, and ESP as operand keeps what was popped
unfoldable pub popped : Form → Registers → List ℕ → Change
popped f r ws = popped_into f r (slice_index ws 0) (with_esp (above r (size f.width)) r).general

-- POPA: a slot above the top of the stack
abbrev pub slot : Registers → ℕ → Touch
slot r n = record { at = above r n; width = W32 }

-- EDI first and EAX last; the slot of ESP isn't loaded
unfoldable pub all_touches : Registers → List Touch
all_touches r = slot r 0 ∷ slot r 4 ∷ slot r 8 ∷ slot r 16 ∷ slot r 20 ∷ slot r 24 ∷ slot r 28 ∷ []

unfoldable pub all_popped : Registers → List ℕ → Change
all_popped r ws =
    with_general r (slice_index ws 6 ∷ slice_index ws 5 ∷ slice_index ws 4 ∷ slice_index ws 3 ∷ above r 32 ∷ slice_index ws 2 ∷ slice_index ws 1 ∷ slice_index ws 0 ∷ [])

-- LEAVE: ESP becomes EBP, and EBP is popped
unfoldable pub frame_touches : Registers → List Touch
frame_touches r = record { at = ebp r; width = W32 } ∷ []

unfoldable pub leave : Registers → List ℕ → Change
leave r ws = with_general r (slice_set (with_esp ((ebp r + 4) % 2 ^ 32) r).general 5 (slice_index ws 0))

-- where CALL and JMP go: a displacement counts from behind the instruction
abbrev pub target_of : Operand → Form → Registers → List ℕ → ℕ
target_of (Immediate x) f r ws = (r.eip + x) % 2 ^ 32
target_of _ f r ws = first f r ws

-- the same target, read where it stands, or the address where the operand that names it lies outside
abbrev pub target_read : Side → ℕ → Width → Operand → List ℕ → Result ℕ ℕ
target_read side eip w (Immediate x) g = Ok ((eip + x) % 2 ^ 32)
target_read side eip w o g = read_of side w o g

-- CALL pushes the address behind it
unfoldable pub called : Form → Registers → List ℕ → Change
called f r ws =
    Done (record (with_esp (below r 4) r) { eip = target_of f.first f r ws })
    (record { at = below r 4; width = W32; value = r.eip } ∷ [])

-- RET, which drops so many bytes more
unfoldable pub returned : Form → Registers → List ℕ → Change
returned f r ws =
    Done (record (with_esp (above r (4 + value_of W16 f.first r.general 0)) r) { eip = slice_index ws 0 }) []

-- JMP
unfoldable pub jumped : Form → Registers → List ℕ → Change
jumped f r ws = Done (record r { eip = target_of f.first f r ws }) []
