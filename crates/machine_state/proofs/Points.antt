-- The seven points.
use Rattle.std.proofs.Common.{◌≡◌, true, refl, sym, ◌∙◌, Option, Some, None}
use Rattle.std.specs.Prelude.{is_some}
use Rattle.line_kinds.specs.declared.kinds.Who.TheVariants.{Guest, Thread as ThreadOn, Init, Irq, Fifo as FifoOn}
use Rattle.rt_threads.specs.declared.threads.Thread.{Thread}
use Rattle.rt_threads.specs.Threads.{is_ready_in, thread_at}
use Rattle.machine_state.specs.Laws.{ReadyIsLive, Stands}
use Rattle.machine_state.proofs.Dues.{live_dues}

pub points : Stands
points m who lines_held s said = record {
  guest = record { side = refl; registers = refl; com1 = refl; soft = refl; timer_start = refl; timer_period = refl; mode = refl };
  asked = record { asked = refl; said = said };
  real_time = record { version = refl; side = refl; modules = refl; threads = refl; ready = refl; entries = refl; soft = refl; fifos = refl; com2 = refl; registers = refl; on = refl };
  marked = refl;
  pair = record { booted = s.running.board.booted; pair = s.running.board.pair; latch = refl };
  shot = record { shot = s.running.board.shot; rise = refl };
  dues = record {
    threads = s.running.agrees.dues ∙ sym (live_dues m.processor.on m.processor.registers m.all.threads);
    guest = s.running.due;
    timely = s.timely;
  };
}

ready_live : (slot : Option Thread) → is_ready_in slot ≡ true → is_some slot ≡ true
ready_live None e = e
ready_live (Some thread) e = refl

pub ready_is_live : ReadyIsLive
ready_is_live None all ready = ready
ready_is_live (Some Guest) all ready = ready
ready_is_live (Some (ThreadOn i)) all ready = ready_live (thread_at all.threads i) ready
ready_is_live (Some (Init n)) all ready = ready
ready_is_live (Some (Irq n)) all ready = ready
ready_is_live (Some (FifoOn n)) all ready = ready
