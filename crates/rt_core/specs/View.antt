-- How a machine is seen, and what holds of it between two ticks.
use Rattle.std.specs.Prelude.{◌≤◌, ◌+◌, length, drop}
use Rattle.machine_state.specs.Parts.{MachineParts}
use Rattle.machine_state.specs.Standing.{IsStanding}
use Rattle.rt_core.specs.Coming.{AreComing}
use Rattle.rt_core.specs.declared.machine.Machine.TheInside.{Inside}

-- its parts, with the script's events from the place of the first one to come
abbrev pub seen : Inside → MachineParts
seen m = record {
  memory = m.memory;
  processor = m.processor;
  board = m.board;
  all = m.all;
  guest = m.guest;
  last = m.last;
  modules = m.modules;
  coming = drop m.next m.script.events;
  ticks = m.ticks;
}

-- it stands, and none of the events to come is of a tick that was run
pub record IsMachine (m : Inside) : Type 0 where
  pub standing : IsStanding (seen m)
  pub place : m.next ≤ length m.script.events
  pub coming : AreComing (m.ticks + 1) (drop m.next m.script.events)
