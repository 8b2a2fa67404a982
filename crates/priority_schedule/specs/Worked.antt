-- Small states, and what the rules of docs/SCHEDULE.md give for each: the values are the rules', and the definitions compute to them.
use Rattle.std.specs.Prelude.{◌≡◌, ℕ, true, false, List, [], ◌∷◌, replicate, slice_set, Option, Some, None, option_map}
use Rattle.cpu_state.specs.Registers.{eax, esp, starting}
use Rattle.memory_model.specs.Side.{word_at}
use Rattle.line_kinds.specs.declared.kinds.RLine.TheVariants.{Release}
use Rattle.line_kinds.specs.declared.kinds.Who.TheVariants.{Guest, Thread as ThreadOn, Init, Irq, Fifo as FifoOn}
use Rattle.rt_threads.specs.declared.threads.Thread.{Thread}
use Rattle.rt_threads.specs.declared.threads.State.{State}
use Rattle.rt_threads.specs.declared.threads.State.TheVariants.{Ready, Waiting, Suspended}
use Rattle.rt_fifos.specs.Fifos.{Fifo, fifo_at}
use Rattle.priority_schedule.specs.Pick.{next_activity}
use Rattle.priority_schedule.specs.Release.{Ticking, released}
use Rattle.rt_threads.specs.Threads.{thread_at}
use Rattle.priority_schedule.specs.State.{RealTime, first_state}
use Rattle.priority_schedule.specs.Tick.{started}

-- A state: thread 0 waits until 6, threads 1 and 2 until 4, thread 3 is suspended, and thread 4 is ready and has a period. Line 7 is
-- held with its handler at 40h, and marked; FIFO 2 of 4 bytes has a handler at 80h, and is marked

abbrev pub thread : ℕ → State → Thread
thread priority state = record { registers = starting 0 0 0 true; priority = priority; state = state; period = 0; next = 0 }

abbrev pub some_threads : List (Option Thread)
some_threads =
    Some (thread 7 (Waiting 6)) ∷ Some (thread 7 (Waiting 4)) ∷ Some (thread 7 (Waiting 4)) ∷ Some (thread 7 Suspended)
    ∷ Some (record (thread 9 Ready) { period = 5 }) ∷ replicate 59 None

abbrev pub some_fifo : Fifo
some_fifo = record { size = 4; bytes = []; handler = Some 0x80; mark = true }

unfoldable pub some_state : RealTime
some_state = record (first_state (record { version = 1; side = record { first = 0x100; bytes = replicate 16 0 }; inits = [] })) {
  threads = some_threads;
  ready = record { id = 4; since = 1 } ∷ [];
  irqs = record { entries = slice_set (replicate 16 None) 7 (Some 0x40); marked = 0x80; soft = 0 };
  fifos = slice_set (replicate 64 None) 2 (Some some_fifo);
}

-- Releases of tick 5: threads 1 and 2, with their due as since when they are ready; not thread 0, whose due is to come

unfoldable pub released_five : Ticking
released_five = released 64 5 (record { real = some_state; lines = [] })

pub record Releases : Type 0 where
  pub lines : released_five.lines ≡ Release 1 ∷ Release 2 ∷ []
  pub ready : released_five.real.ready ≡ record { id = 4; since = 1 } ∷ record { id = 1; since = 4 } ∷ record { id = 2; since = 4 } ∷ []
  pub still_waiting : option_map (λ (th : Thread). th.state) (thread_at released_five.real.threads 0) ≡ Some (Waiting 6)

-- What is on next: an init, in a tick that drains the handler of a line, then of a FIFO, then a thread, then the guest

pub record Order : Type 0 where
  pub init : next_activity true (record some_state { modules = record { number = 3; entry = 0 } ∷ [] }) ≡ Init 3
  pub line : next_activity true some_state ≡ Irq 7
  pub fifo : next_activity true (record some_state { irqs = record some_state.irqs { marked = 0 } }) ≡ FifoOn 2
  pub closed : next_activity false some_state ≡ ThreadOn 4
  pub guest : next_activity false (record some_state { ready = [] }) ≡ Guest

-- Handlers: one that starts has its number in EAX, the end of the side as its stack with the way to the stub on top, and its mark is
-- cleared

pub record Handlers : Type 0 where
  pub entry : (started (Irq 7) some_state).registers.eip ≡ 0x40
  pub number : eax (started (Irq 7) some_state).registers ≡ 7
  pub stack : esp (started (Irq 7) some_state).registers ≡ 0x10c
  pub top : word_at (started (Irq 7) some_state).side 0x10c 4 ≡ 0x100
  pub line_mark : (started (Irq 7) some_state).irqs.marked ≡ 0
  pub fifo_mark : fifo_at (started (FifoOn 2) some_state).fifos 2 ≡ Some (record some_fifo { mark = false })
