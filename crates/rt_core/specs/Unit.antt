-- What the unit of a tick leaves, whoever is on.
use Rattle.std.specs.Prelude.{◌≡◌, ◌++◌, ℕ, [], if◌then◌else◌, Option, Some, None}
use Rattle.line_kinds.specs.declared.kinds.Who.{Who}
use Rattle.line_kinds.specs.declared.kinds.Who.TheVariants.{Guest}
use Rattle.module_gates.specs.Callers.{who}
use Rattle.module_gates.specs.declared.caller.Caller.{Caller}
use Rattle.line_kinds.specs.Calls.{Call}
use Rattle.trace_lines.specs.TickLines.{TickLines}
use Rattle.run_lines.specs.Says.{is_guest, pended, reply_in}
use Rattle.bare_machine.specs.State.{Bare, UnitOutcome, Done}
use Rattle.bare_machine.specs.Tick.{asked_also}
use Rattle.bare_machine.specs.Unit.{guest_unit, unit_after, unit_lines}
use Rattle.priority_schedule.specs.Tick.{after_unit}
use Rattle.priority_schedule.specs.Unit.{RealUnit, unit_of}
use Rattle.hardware_lines.specs.Hardware.{unit_step}
use Rattle.schedule_laws.specs.Both.{call_among}
use Rattle.machine_state.specs.Changed.{TellsDues}
use Rattle.machine_state.specs.declared.change.DueChange.{DueChange}
use Rattle.machine_state.specs.Parts.{MachineParts}
use Rattle.machine_state.specs.Running.{IsRunning}
use Rattle.machine_state.specs.States.{bare_of, hardware_at, machines_of, real_of}

-- an activity other than the guest, which calls gates
abbrev pub IsCaller : Who → Option Caller → Type 0
IsCaller on None = on ≡ Guest
IsCaller on (Some caller) = on ≡ who caller

-- the guest's unit, where the guest is on
abbrev pub unit_where : ℕ → Who → Bare → UnitOutcome
unit_where now on b = if is_guest (Some on) then guest_unit now b else Done b []

-- the call on FIFOs that it makes, if it makes one
abbrev pub call_where : ℕ → Who → Bare → Option Call
call_where now on b = call_among (unit_lines (unit_where now on b))

-- the real-time side's unit: the activity's, or the reply to the guest's call
abbrev pub real_unit : ℕ → Who → MachineParts → RealUnit
real_unit now on m = unit_of now (call_where now on (bare_of m)) (real_of m) (Some on)

-- the guest does its unit where it is on, with the reply to its call, and more is asked of it where a gate marks a line for it; the
-- real-time side does its own; what rose by the unit is latched, and a latched line whose owner changed is acknowledged
pub record UnitStep (now : ℕ) (on : Who) (old new : MachineParts) (before after : TickLines) (change : DueChange) : Type 0 where
  pub bare : bare_of new ≡ asked_also (pended (real_unit now on old).lines) (unit_after (reply_in (real_unit now on old).lines) (unit_where now on (bare_of old)))
  pub guest_lines : after.g ≡ before.g ++ unit_lines (unit_where now on (bare_of old))
  pub real : record { real = real_of new; lines = after.r } ≡ after_unit (record { real = real_of old; lines = before.r }) (real_unit now on old)
  pub hardware : record { hardware = hardware_at new; lines = after.h }
      ≡ unit_step (machines_of old) (machines_of new) (record { hardware = hardware_at old; lines = before.h })
  pub dues : TellsDues change old.all.timeline new.all.timeline
  pub running : IsRunning new
