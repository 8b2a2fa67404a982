-- Where the results of an instruction go. The registers here have their EIP behind the instruction already.
use Rattle.std.specs.Prelude.{ℕ, List, [], slice_index}
use Rattle.cpu_state.specs.declared.eflags.Eflags.{Eflags}
use Rattle.cpu_state.specs.declared.registers.Registers.{Registers}
use Rattle.i386_alu.specs.Computed.{Computed}
use Rattle.i386_decode.specs.declared.form.Form.{Form}
use Rattle.i386_effects.specs.Operands.{value_of, with_operand, writes_to}
use Rattle.i386_effects.specs.Change.{Change, Done}

-- the values of the operands, where the words that were loaded are known; of the two at most one stands in memory
abbrev pub first : Form → Registers → List ℕ → ℕ
first f r ws = value_of f.width f.first r.general (slice_index ws 0)

abbrev pub second : Form → Registers → List ℕ → ℕ
second f r ws = value_of f.width f.second r.general (slice_index ws 0)

-- a result goes into the first operand, with its flags
abbrev pub computed : Form → Registers → Computed → Change
computed f r c =
    Done (record r { general = with_operand f.width f.first c.value r.general; eflags = c.flags })
    (writes_to f.width f.first c.value r.general)

-- a value goes into the first operand, and the flags stay
abbrev pub assigned : Form → Registers → ℕ → Change
assigned f r x = computed f r (record { value = x; flags = r.eflags })

-- only flags change
abbrev pub flagged : Registers → Eflags → Change
flagged r e = Done (record r { eflags = e }) []

-- only general registers change
abbrev pub with_general : Registers → List ℕ → Change
with_general r g = Done (record r { general = g }) []
