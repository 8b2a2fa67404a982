-- The pick: what is on the processor in a tick. That inits and handlers go before threads is this project's own.
use Rattle.std.specs.Prelude.{Bool, List, [], ◌∷◌, if◌then◌else◌, Option, Some, None, option_map}
use Rattle.rt_irqs.specs.Irqs.{next_of}
use Rattle.line_kinds.specs.declared.kinds.Who.{Who}
use Rattle.line_kinds.specs.declared.kinds.Who.TheVariants.{Guest, Thread as ThreadOn, Init, Irq, Fifo as FifoOn}
use Rattle.rt_threads.specs.Threads.{priority_of}
use Rattle.rt_ready.specs.declared.ready.Place.{Place}
use Rattle.rt_ready.specs.Order.{first_place, places}
use Rattle.rt_fifos.specs.Fifos.{next_marked}
use Rattle.priority_schedule.specs.State.{RealTime, Module}

abbrev pub first_ready : RealTime → Option Place
first_ready m = first_place m.version (places (priority_of m.threads) m.ready)

abbrev pub next_module : List Module → Option Who
next_module [] = None
next_module (m ∷ ms) = Some (Init m.number)

-- the first that there is, and else the guest
abbrev pub first_of_all : List (Option Who) → Who
first_of_all [] = Guest
first_of_all (None ∷ rest) = first_of_all rest
first_of_all (Some who ∷ rest) = who

-- where no init or handler runs: the next module's init; in a tick that drains, the handler of the marked line that is next, then that
-- of the marked FIFO of lowest number; the first of the ready threads; the guest
abbrev pub next_activity : Bool → RealTime → Who
next_activity draining m = first_of_all (
    next_module m.modules
    ∷ (if draining then option_map Irq (next_of m.irqs) else None)
    ∷ (if draining then option_map FifoOn (next_marked m.fifos) else None)
    ∷ option_map (λ (p : Place). ThreadOn p.id) (first_ready m)
    ∷ [])

-- a running init or handler stays. A thread and the guest are picked anew in each tick
abbrev pub pick_after : Bool → RealTime → Option Who → Who
pick_after draining m None = next_activity draining m
pick_after draining m (Some Guest) = next_activity draining m
pick_after draining m (Some (ThreadOn i)) = next_activity draining m
pick_after draining m (Some (Init n)) = Init n
pick_after draining m (Some (Irq line)) = Irq line
pick_after draining m (Some (FifoOn f)) = FifoOn f

abbrev pub pick : Bool → RealTime → Who
pick draining m = pick_after draining m m.on
