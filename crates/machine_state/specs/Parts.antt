-- What a machine is made of.
use Rattle.std.specs.Prelude.{ℕ, List, length}
use Rattle.memory_model.specs.Side.{Side}
use Rattle.flat_memory.specs.Parts.{Parts}
use Rattle.flat_memory.specs.Side.{side_at}
use Rattle.device_script.specs.declared.event.Event.{Event}
use Rattle.port_board.specs.declared.board.Board.{Board}
use Rattle.executive.specs.declared.executive.Executive.{Executive}
use Rattle.priority_schedule.specs.State.{Module}
use Rattle.machine_state.specs.declared.guest.Guest.{Guest}
use Rattle.machine_state.specs.declared.processor.Processor.{Processor}

-- The one memory. The processor, with what is on it. The board of devices. The executive's parts. The guest's soft side. The last tick in
-- which line 0 was acknowledged, or 0. The modules whose inits are still to start. The events of the script's ticks to come. How many
-- ticks were run
pub record MachineParts : Type 0 where
  pub memory : Parts
  pub processor : Processor
  pub board : Board
  pub all : Executive
  pub guest : Guest
  pub last : ℕ
  pub modules : List Module
  pub coming : List (ℕ × Event)
  pub ticks : ℕ

-- the guest's side, from address 0 on
abbrev pub guest_side : Parts → Side
guest_side memory = side_at 0 memory.guest

-- the real-time side begins where the guest's ends
abbrev pub real_side : Parts → Side
real_side memory = side_at (length memory.guest) memory.real_time
