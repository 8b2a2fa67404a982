-- What a unit of a real-time activity comes to. It has no shadow and no soft flags: CLI, STI, PUSHF and POPF are performed on
-- the registers' own interrupt flag.
use Rattle.std.specs.Prelude.{ℕ, ◌==◌, if◌then◌else◌}
use Rattle.cpu_state.specs.Bus.{State, Ports}
use Rattle.cpu_state.specs.declared.registers.Privileged.{Privileged as PrivilegedUse}
use Rattle.cpu_state.specs.declared.registers.Privileged.TheVariants.{Cli, Sti, Iret, Pushf, Popf, Hlt}
use Rattle.cpu_state.specs.declared.registers.Registers.{Registers}
use Rattle.i386_effects.specs.Effect.{Effect, EffectOf}
use Rattle.i386_execute.specs.OwnFlag.{flag_unit}
use Rattle.i386_execute.specs.Unit.{unit, address_behind}
use Rattle.i386_effects.specs.declared.stepped.Stepped.{Stepped}
use Rattle.i386_effects.specs.declared.stepped.Stepped.TheVariants.{Next as Performed, Trap, Interrupt, Privileged as Uses, Outside, Port as OwnedPort}
use Rattle.line_kinds.specs.declared.kinds.FaultKind.{FaultKind}
use Rattle.line_kinds.specs.declared.kinds.FaultKind.TheVariants.{Divide, Opcode, Int, Memory, Port, Privileged}
use Rattle.breach_monitor.specs.declared.real_time.RealTimeUnit.{RealTimeUnit}
use Rattle.breach_monitor.specs.declared.real_time.RealTimeUnit.TheVariants.{Next, Gate, Return, Fault as Faults}

-- the effect of a unit of a real-time activity
abbrev pub Outcome : Type 0 → Type 0
Outcome D = EffectOf RealTimeUnit D

-- an answer that leaves everything as it is
abbrev pub unchanged_with : {D : Type 0} → RealTimeUnit → Registers → State D → Outcome D
unchanged_with answer regs st = record { answer = answer; registers = regs; bus = st }

abbrev pub faulted : {D : Type 0} → FaultKind → Registers → State D → Outcome D
faulted fault regs st = unchanged_with (Faults fault) regs st

-- a unit that was performed
abbrev pub next_outcome : {D : Type 0} → Effect D → Outcome D
next_outcome e = record { answer = Next; registers = e.registers; bus = e.bus }

-- INT F8h is the gate and INT F9h the return; no other vector is there
abbrev pub real_time_interrupt : ℕ → ℕ → RealTimeUnit
real_time_interrupt vector next = if vector == 0xF8 then Gate next else if vector == 0xF9 then Return else Faults Int

-- exception 0 is the divide error, and the only other one the invalid opcode
abbrev pub trapped : ℕ → FaultKind
trapped vector = if vector == 0 then Divide else Opcode

-- an instruction on the registers' own flag is performed, or its access lies outside
abbrev pub performed_or_outside : {D : Type 0} → Registers → State D → Stepped → Effect D → Outcome D
performed_or_outside regs st Performed e = next_outcome e
performed_or_outside regs st stepped e = faulted Memory regs st

abbrev pub on_flag : {D : Type 0} → Ports D → PrivilegedUse → ℕ → Registers → State D → Outcome D
on_flag ports kind n regs st = let e = flag_unit ports kind n regs st in performed_or_outside regs st e.answer e

-- IRET and HLT are nobody's
abbrev pub privileged_use : {D : Type 0} → Ports D → PrivilegedUse → ℕ → Registers → State D → Outcome D
privileged_use ports Cli n regs st = on_flag ports Cli n regs st
privileged_use ports Sti n regs st = on_flag ports Sti n regs st
privileged_use ports Pushf n regs st = on_flag ports Pushf n regs st
privileged_use ports Popf n regs st = on_flag ports Popf n regs st
privileged_use ports Iret n regs st = faulted Privileged regs st
privileged_use ports Hlt n regs st = faulted Privileged regs st

abbrev pub outcome_of_stepped : {D : Type 0} → Ports D → Registers → State D → Stepped → Effect D → Outcome D
outcome_of_stepped ports regs st Performed e = next_outcome e
outcome_of_stepped ports regs st (Trap vector) e = faulted (trapped vector) regs st
outcome_of_stepped ports regs st (Interrupt vector) e = unchanged_with (real_time_interrupt vector (address_behind regs st.side)) regs st
outcome_of_stepped ports regs st (Uses kind n) e = privileged_use ports kind n regs st
outcome_of_stepped ports regs st (Outside access at) e = faulted Memory regs st
outcome_of_stepped ports regs st (OwnedPort port) e = faulted Port regs st

unfoldable pub real_time_outcome : {D : Type 0} → Ports D → Registers → State D → Outcome D
real_time_outcome ports regs st = let e = unit ports regs st in outcome_of_stepped ports regs st e.answer e
