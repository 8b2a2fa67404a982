-- What an executive puts on the processor, by its own places of the ready threads.
use Rattle.std.specs.Prelude.{◌≡◌, ℕ, Bool, true, [], ◌∷◌, if◌then◌else◌, Option, Some, None, option_map, ◌⊎◌}
use Rattle.line_sets.specs.LineSet.{has}
use Rattle.line_kinds.specs.declared.kinds.Who.{Who}
use Rattle.line_kinds.specs.declared.kinds.Who.TheVariants.{Guest, Thread as ThreadOn, Init, Irq, Fifo as FifoOn}
use Rattle.rt_threads.specs.Threads.{is_ready_in, thread_at}
use Rattle.rt_irqs.specs.Irqs.{next_of}
use Rattle.rt_fifos.specs.Fifos.{fifo_at, is_marked, next_marked}
use Rattle.rt_ready.specs.declared.ready.Place.{Place}
use Rattle.rt_ready.specs.Order.{first_place}
use Rattle.executive.specs.declared.executive.Executive.{Executive}
use Rattle.priority_schedule.specs.Pick.{first_of_all}

-- an init or handler that runs
abbrev pub running_in : Option Who → Option Who
running_in None = None
running_in (Some Guest) = None
running_in (Some (ThreadOn i)) = None
running_in (Some (Init n)) = Some (Init n)
running_in (Some (Irq line)) = Some (Irq line)
running_in (Some (FifoOn f)) = Some (FifoOn f)

abbrev pub first_handler : Option ℕ → Option ℕ → Option Who
first_handler (Some line) fifo = Some (Irq line)
first_handler None fifo = option_map FifoOn fifo

-- the handler that is next, in a tick that drains
abbrev pub handler_next : Bool → Executive → Option Who
handler_next draining all = if draining then first_handler (next_of all.irqs) (next_marked all.fifos) else None

abbrev pub thread_next : Executive → Option Who
thread_next all = option_map (λ (p : Place). ThreadOn p.id) (first_place all.ready.version all.ready.places)

abbrev pub picked_of : Bool → Option Who → Option ℕ → Executive → Who
picked_of draining on module_next all =
    first_of_all (running_in on ∷ option_map Init module_next ∷ handler_next draining all ∷ thread_next all ∷ [])

-- what is picked can go on: a thread is ready, and a handler that wasn't on has its mark
abbrev pub CanRun : Option Who → Executive → Who → Type 0
CanRun on all Guest = Unit {0}
CanRun on all (ThreadOn i) = is_ready_in (thread_at all.threads i) ≡ true
CanRun on all (Init n) = Unit {0}
CanRun on all (Irq line) = (on ≡ Some (Irq line)) ⊎ (has all.irqs.marked line ≡ true)
CanRun on all (FifoOn f) = (on ≡ Some (FifoOn f)) ⊎ (is_marked (fifo_at all.fifos f) ≡ true)
