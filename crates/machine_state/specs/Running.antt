-- What holds of a machine at each moment of a tick, before and after each of its steps.
use Rattle.std.specs.Prelude.{◌≡◌, ◌≤◌, ℕ, true, Option, Some, None, length}
use Rattle.flat_memory.specs.Parts.{Parts}
use Rattle.line_kinds.specs.declared.kinds.Who.{Who}
use Rattle.line_kinds.specs.declared.kinds.Who.TheVariants.{Guest as GuestOn, Thread as ThreadOn, Init, Irq, Fifo as FifoOn}
use Rattle.port_board.specs.Board.{rises_of}
use Rattle.rt_irqs.specs.Irqs.{IsLines}
use Rattle.rt_threads.specs.Threads.{is_ready_in, thread_at}
use Rattle.soft_flags.specs.SoftFlags.{HasTableIn}
use Rattle.executive.specs.declared.executive.Executive.{Executive}
use Rattle.executive.specs.Agreement.{Agrees}
use Rattle.hardware_lines.specs.Hardware.{timer_due}
use Rattle.hardware_steps.specs.HardwareOf.{IsBoard}
use Rattle.machine_state.specs.declared.guest.Guest.{Guest}
use Rattle.machine_state.specs.Parts.{MachineParts}

-- how many bytes the two sides have
pub record HasSizes (memory : Parts) : Type 0 where
  pub guest : length memory.guest ≤ 16777216
  pub stack : 65536 ≤ length memory.real_time
  pub real_time : length memory.real_time ≤ 4194304

-- a thread that is on is ready
abbrev pub OnReady : Option Who → Executive → Type 0
OnReady (Some (ThreadOn i)) all = is_ready_in (thread_at all.threads i) ≡ true
OnReady (Some GuestOn) all = Unit {0}
OnReady (Some (Init n)) all = Unit {0}
OnReady (Some (Irq n)) all = Unit {0}
OnReady (Some (FifoOn n)) all = Unit {0}
OnReady None all = Unit {0}

-- the guest's timer was set by a tick that was run, for a period of at most 1,000,000,000 ticks
pub record IsTimer (ticks : ℕ) (guest : Guest) : Type 0 where
  pub start : guest.timer_start ≤ ticks
  pub period : guest.timer_period ≤ 1000000000

pub record IsRunning (m : MachineParts) : Type 0 where
  pub few : m.ticks ≤ 1000000000
  pub sizes : HasSizes m.memory
  pub board : IsBoard m.board
  -- no rise by an access waits for its line
  pub taken : rises_of m.board ≡ 0
  pub agrees : Agrees m.all
  pub lines : IsLines m.all.irqs
  pub ready : OnReady m.processor.on m.all
  pub table : HasTableIn m.guest.soft (length m.memory.guest)
  pub timer : IsTimer m.ticks m.guest
  pub past : m.last ≤ m.ticks
  -- the guest's due in the timeline is its timer's first one above the last acknowledgement of line 0
  pub due : m.all.timeline.guest ≡ timer_due m.last m.guest.timer_start m.guest.timer_period
