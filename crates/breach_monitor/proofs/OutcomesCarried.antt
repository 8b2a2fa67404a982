-- A unit of a real-time activity is carried from one kind of devices to another as the processor's unit is.
use Rattle.std.proofs.Common.{◌≡◌, ℕ, refl, ap, ◌∙◌}
use Rattle.cpu_state.specs.Bus.{State, Ports}
use Rattle.cpu_state.specs.declared.registers.Privileged.{Privileged as PrivilegedUse}
use Rattle.cpu_state.specs.declared.registers.Privileged.TheVariants.{Cli, Sti, Iret, Pushf, Popf, Hlt}
use Rattle.cpu_state.specs.declared.registers.Registers.{Registers}
use Rattle.i386_effects.specs.Effect.{Effect}
use Rattle.i386_execute.specs.OwnFlag.{flag_unit}
use Rattle.i386_execute.specs.Unit.{unit}
use Rattle.i386_effects.specs.declared.stepped.Stepped.{Stepped}
use Rattle.i386_effects.specs.declared.stepped.Stepped.TheVariants.{Next, Trap, Interrupt, Privileged, Outside, Port}
use Rattle.breach_monitor.specs.Laws.{with_devices, effect_with}
use Rattle.breach_monitor.specs.RealTimeUnit.{performed_or_outside, on_flag, privileged_use, outcome_of_stepped, real_time_outcome}
use Rattle.breach_monitor.proofs.Carried.{Carries, unit_carried, flag_unit_carried}

performed_or_outside_carried : {D E : Type 0} (g : E → D) (regs : Registers) (st : State E) (stepped : Stepped) (e : Effect E)
    → performed_or_outside regs (with_devices g st) stepped (effect_with g e) ≡ effect_with g (performed_or_outside regs st stepped e)
performed_or_outside_carried g regs st Next e = refl
performed_or_outside_carried g regs st (Trap vector) e = refl
performed_or_outside_carried g regs st (Interrupt vector) e = refl
performed_or_outside_carried g regs st (Privileged kind n) e = refl
performed_or_outside_carried g regs st (Outside access at) e = refl
performed_or_outside_carried g regs st (Port port) e = refl

on_flag_carried : {D E : Type 0} (g : E → D) (p : Ports D) (q : Ports E) (kind : PrivilegedUse) (n : ℕ) (regs : Registers) (st : State E)
    → Carries g p q st.devices → on_flag p kind n regs (with_devices g st) ≡ effect_with g (on_flag q kind n regs st)
on_flag_carried g p q kind n regs st k =
    let e = flag_unit q kind n regs st in
    ap (λ e. performed_or_outside regs (with_devices g st) e.answer e) (flag_unit_carried g p q kind n regs st k) ∙ performed_or_outside_carried g regs st e.answer e

privileged_use_carried : {D E : Type 0} (g : E → D) (p : Ports D) (q : Ports E) (kind : PrivilegedUse) (n : ℕ) (regs : Registers) (st : State E)
    → Carries g p q st.devices → privileged_use p kind n regs (with_devices g st) ≡ effect_with g (privileged_use q kind n regs st)
privileged_use_carried g p q Cli n regs st k = on_flag_carried g p q Cli n regs st k
privileged_use_carried g p q Sti n regs st k = on_flag_carried g p q Sti n regs st k
privileged_use_carried g p q Pushf n regs st k = on_flag_carried g p q Pushf n regs st k
privileged_use_carried g p q Popf n regs st k = on_flag_carried g p q Popf n regs st k
privileged_use_carried g p q Iret n regs st k = refl
privileged_use_carried g p q Hlt n regs st k = refl

outcome_of_stepped_carried : {D E : Type 0} (g : E → D) (p : Ports D) (q : Ports E) (regs : Registers) (st : State E) (stepped : Stepped) (e : Effect E)
    → Carries g p q st.devices → outcome_of_stepped p regs (with_devices g st) stepped (effect_with g e) ≡ effect_with g (outcome_of_stepped q regs st stepped e)
outcome_of_stepped_carried g p q regs st Next e k = refl
outcome_of_stepped_carried g p q regs st (Trap vector) e k = refl
outcome_of_stepped_carried g p q regs st (Interrupt vector) e k = refl
outcome_of_stepped_carried g p q regs st (Privileged kind n) e k = privileged_use_carried g p q kind n regs st k
outcome_of_stepped_carried g p q regs st (Outside access at) e k = refl
outcome_of_stepped_carried g p q regs st (Port port) e k = refl

pub real_time_carried : {D E : Type 0} (g : E → D) (p : Ports D) (q : Ports E) (regs : Registers) (st : State E)
    → Carries g p q st.devices → real_time_outcome p regs (with_devices g st) ≡ effect_with g (real_time_outcome q regs st)
unfolding real_time_outcome
real_time_carried g p q regs st k =
    let e = unit q regs st in
    ap (λ e. outcome_of_stepped p regs (with_devices g st) e.answer e) (unit_carried g p q regs st k) ∙ outcome_of_stepped_carried g p q regs st e.answer e k
