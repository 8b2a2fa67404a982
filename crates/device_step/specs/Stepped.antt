-- What the devices' step of a tick leaves, with its lines.
use Rattle.std.specs.Prelude.{◌≡◌, ℕ, List, []}
use Rattle.device_script.specs.declared.event.Event.{Event}
use Rattle.port_map.specs.SerialLine.{byte_sent}
use Rattle.trace_lines.specs.TickLines.{TickLines}
use Rattle.hard_dispatch.specs.Dispatch.{held_lines}
use Rattle.bare_machine.specs.Tick.{com1_lines, prepared}
use Rattle.priority_schedule.specs.Tick.{begun, devices}
use Rattle.hardware_lines.specs.Hardware.{devices_of, edge_step}
use Rattle.machine_state.specs.Parts.{MachineParts}
use Rattle.machine_state.specs.Running.{IsRunning}
use Rattle.machine_state.specs.States.{bare_of, hardware_at, machines_of, real_of}

-- the bare machine's port takes a tick, and more lines are asked of it; the real-time side's port does, and its lines of the script are
-- marked; and each line that rises is latched
pub record DevicesStep (now : ℕ) (events : List Event) (old new : MachineParts) (lines : TickLines) : Type 0 where
  pub bare : bare_of new ≡ prepared now events (held_lines old.all.irqs) (bare_of old)
  pub real : record { real = real_of new; lines = lines.r } ≡ devices events (begun (real_of old))
  pub hardware : record { hardware = hardware_at new; lines = lines.h }
      ≡ edge_step now events (machines_of old) (devices_of events (machines_of old)) (record { hardware = hardware_at old; lines = [] })
  pub guest_lines : lines.g ≡ com1_lines (byte_sent (bare_of old).com1)
  pub running : IsRunning new
