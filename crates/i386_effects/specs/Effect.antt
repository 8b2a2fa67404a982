-- The effect of an instruction: its loads in order, then what it changes, and one outcome. Every outcome but Next changes
-- nothing (that an instruction with an access outside is given up whole is this machine's own rule).
use Rattle.std.specs.Prelude.{◌≡◌, ◌≢◌, ℕ, List, Option, Some, None, Result, Ok, Err, if◌then◌else◌}
use Rattle.cpu_state.specs.Bus.{State, Ports, all_mine}
use Rattle.cpu_state.specs.Width.{size}
use Rattle.cpu_state.specs.declared.registers.Access.TheVariants.{Load, Store}
use Rattle.cpu_state.specs.declared.registers.Registers.{Registers}
use Rattle.cpu_state.specs.declared.width.Width.{Width}
use Rattle.i386_effects.specs.Accesses.{all_loaded, first_outside_store, all_stored}
use Rattle.i386_effects.specs.Operands.{with_part}
use Rattle.i386_effects.specs.declared.accesses.Touch.{Touch}
use Rattle.i386_effects.specs.declared.accesses.Write.{Write}
use Rattle.i386_effects.specs.Change.{Change}
use Rattle.i386_effects.specs.Change as change
use Rattle.i386_effects.specs.declared.stepped.Stepped.{Stepped}
use Rattle.i386_effects.specs.declared.stepped.Stepped.TheVariants.{Next, Trap, Interrupt, Privileged, Outside, Port}

-- what something that was performed came to, as an answer of its own kind, with the registers and what the bus reaches after it
pub record EffectOf (A : Type 0) (D : Type 0) : Type 0 where
  pub answer : A
  pub registers : Registers
  pub bus : State D

-- the effect of a unit
abbrev pub Effect : Type 0 → Type 0
Effect D = EffectOf Stepped D

-- the same by its three parts
abbrev pub came_to : {D : Type 0} → Stepped → Registers → State D → Effect D
came_to stepped regs st = record { answer = stepped; registers = regs; bus = st }

-- an outcome that changes nothing
abbrev pub unchanged : {D : Type 0} → Stepped → Registers → State D → Effect D
unchanged stepped regs st = came_to stepped regs st

-- new registers and stores that are made together or not at all: the first store that lies outside, if there is one, with the
-- registers and what the bus reaches after it
pub record Commit (D : Type 0) : Type 0 where
  pub outside : Option ℕ
  pub registers : Registers
  pub bus : State D

abbrev pub commit_unless : {D : Type 0} → Registers → State D → Registers → List Write → Option ℕ → Commit D
commit_unless regs st after writes (Some at) = record { outside = Some at; registers = regs; bus = st }
commit_unless regs st after writes None = record {
  outside = None;
  registers = after;
  bus = record st { side = all_stored st.side writes };
}

abbrev pub committed : {D : Type 0} → Registers → State D → Registers → List Write → Commit D
committed regs st after writes = commit_unless regs st after writes (first_outside_store st.side writes)

abbrev pub stored_or : Option ℕ → Stepped
stored_or None = Next
stored_or (Some at) = Outside Store at

abbrev pub written : {D : Type 0} → Commit D → Effect D
written c = record { answer = stored_or c.outside; registers = c.registers; bus = c.bus }

-- the registers with the answer of a port in AL, AX or EAX
abbrev pub received : Width → ℕ → Registers → Registers
received w answer after = record after { general = with_part w 0 answer after.general }

-- what a change comes to
abbrev pub changed : {D : Type 0} → Ports D → Registers → State D → Change → Effect D
changed ports regs st (change.Done after writes) = written (committed regs st after writes)
changed ports regs st (change.In after port w) =
    if all_mine ports port (size w) then record {
      answer = Next;
      registers = received w (ports.answer st.devices port (size w)) after;
      bus = record st { devices = ports.after_in st.devices port (size w) };
    }
    else unchanged (Port port) regs st
changed ports regs st (change.Out after port w value) =
    if all_mine ports port (size w) then record {
      answer = Next;
      registers = after;
      bus = record st { devices = ports.after_out st.devices port (size w) value };
    }
    else unchanged (Port port) regs st
changed ports regs st (change.Trap vector) = unchanged (Trap vector) regs st
changed ports regs st (change.Interrupt vector) = unchanged (Interrupt vector) regs st
changed ports regs st (change.Privileged kind length) = unchanged (Privileged kind length) regs st

-- what a change that the loaded words give comes to, or the first load that lies outside
abbrev pub after_loads : {D : Type 0} → Ports D → Registers → State D → (List ℕ → Change) → Result (List ℕ) ℕ → Effect D
after_loads ports regs st change_by (Err at) = unchanged (Outside Load at) regs st
after_loads ports regs st change_by (Ok words) = changed ports regs st (change_by words)

-- the effect with these loads, whose words give the change
abbrev pub effect_of : {D : Type 0} → Ports D → List Touch → (List ℕ → Change) → Registers → State D → Effect D
effect_of ports touches change_by regs st = after_loads ports regs st change_by (all_loaded st.side touches)

-- stores of which one lies outside change nothing
abbrev pub KeepsIfOutside : {D : Type 0} → Registers → State D → Commit D → Type 0
KeepsIfOutside regs st c = c.outside ≢ None → (c.registers ≡ regs) × (c.bus ≡ st)

-- what isn't performed changes nothing
abbrev pub KeepsUnlessPerformed : {D : Type 0} → Registers → State D → Effect D → Type 0
KeepsUnlessPerformed regs st e = e.answer ≢ Next → (e.registers ≡ regs) × (e.bus ≡ st)
