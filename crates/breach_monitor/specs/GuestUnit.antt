-- What a unit of the guest comes to, from what the processor's unit came to.
use Rattle.std.specs.Prelude.{ℕ, nat_le, nat_lt, if◌then◌else◌}
use Rattle.cpu_state.specs.Bus.{State, Ports}
use Rattle.cpu_state.specs.declared.registers.Registers.{Registers}
use Rattle.i386_effects.specs.Effect.{EffectOf}
use Rattle.i386_execute.specs.Unit.{unit, address_behind}
use Rattle.i386_effects.specs.declared.stepped.Stepped.{Stepped}
use Rattle.i386_effects.specs.declared.stepped.Stepped.TheVariants.{Next as Performed, Trap, Interrupt, Privileged as PrivilegedUse, Outside as OutsideAccess, Port as OwnedPort}
use Rattle.breach_monitor.specs.declared.guest.Breach.TheVariants.{Privileged, Int, Port, Outside}
use Rattle.breach_monitor.specs.declared.guest.GuestUnit.{GuestUnit}
use Rattle.breach_monitor.specs.declared.guest.GuestUnit.TheVariants.{Next, Enter, Gate, Breach}

-- the first and the last of the vectors that are soft gates
abbrev pub first_gate : ℕ
first_gate = 0xF0

abbrev pub last_gate : ℕ
last_gate = 0xF6

-- vectors before the soft gates are entered, and those behind them are breaches
abbrev pub interrupted : ℕ → ℕ → GuestUnit
interrupted vector next =
    if nat_lt vector first_gate then Enter vector next
    else if nat_le vector last_gate then Gate vector next
    else Breach (Int vector)

-- a trap pushes the EIP of the instruction, an interrupt that of the next one
abbrev pub answer_to : ℕ → ℕ → Stepped → GuestUnit
answer_to eip next Performed = Next
answer_to eip next (Trap vector) = Enter vector eip
answer_to eip next (Interrupt vector) = interrupted vector next
answer_to eip next (PrivilegedUse kind size) = Breach (Privileged kind)
answer_to eip next (OutsideAccess access at) = Breach (Outside access at)
answer_to eip next (OwnedPort port) = Breach (Port port)

-- the effect of a unit of the guest
abbrev pub guest : {D : Type 0} → Ports D → Registers → State D → EffectOf GuestUnit D
guest ports regs st =
    let e = unit ports regs st in
    record { answer = answer_to regs.eip (address_behind regs st.side) e.answer; registers = e.registers; bus = e.bus }
