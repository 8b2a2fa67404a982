-- The registers of the thread that is on don't change the dues.
use Rattle.std.proofs.Common.{◌≡◌, List, refl, sym, ap, ◌∙◌, Option, Some, None}
use Rattle.cpu_state.specs.declared.registers.Registers.{Registers}
use Rattle.line_kinds.specs.declared.kinds.Who.{Who}
use Rattle.line_kinds.specs.declared.kinds.Who.TheVariants.{Guest, Thread as ThreadOn, Init, Irq, Fifo as FifoOn}
use Rattle.rt_threads.specs.declared.threads.Thread.{Thread}
use Rattle.rt_threads.specs.Threads.{dues_of}
use Rattle.rt_timeline.specs.Dues.{earlier_due, nearest_from, time_of}
use Rattle.activity_contexts.specs.Contexts.{live_threads}
use Rattle.priority_schedule.specs.Release.{nearest}
use Rattle.hardware_lines.specs.Hardware.{timer_due}
use Rattle.schedule_steps.proofs.Live.{dues_kept}
use Rattle.machine_state.specs.Laws.{KnowsNextDue}

pub live_dues : (on : Option Who) (r : Registers) (threads : List (Option Thread)) → dues_of (live_threads on r threads) ≡ dues_of threads
live_dues None r threads = refl
live_dues (Some Guest) r threads = refl
live_dues (Some (ThreadOn i)) r threads = dues_kept i r threads
live_dues (Some (Init n)) r threads = refl
live_dues (Some (Irq n)) r threads = refl
live_dues (Some (FifoOn n)) r threads = refl

pub next_due_known : KnowsNextDue
unfolding nearest
next_due_known m run =
    ap (λ dues. earlier_due (time_of (nearest_from 0 dues)) (timer_due m.last m.guest.timer_start m.guest.timer_period)) (live_dues m.processor.on m.processor.registers m.all.threads ∙ sym run.agrees.dues)
    ∙ ap (earlier_due (time_of (nearest_from 0 m.all.timeline.threads))) (sym run.due)
