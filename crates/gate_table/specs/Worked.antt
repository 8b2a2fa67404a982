-- Small states, and what the table of gates of docs/SCHEDULE.md gives for each: the values are the table's, and the definitions compute
-- to them.
use Rattle.std.specs.Prelude.{◌≡◌, ℕ, true, false, List, [], ◌∷◌, ◌++◌, map, replicate, slice_set, Option, Some, None, option_map, ℤ, pos}
use Rattle.std.specs.List.{range_with_len}
use Rattle.cpu_state.specs.Eflags.{flags_of}
use Rattle.cpu_state.specs.Registers.{starting}
use Rattle.rt_constants.specs.Errors.{failed}
use Rattle.rt_irqs.specs.Irqs.{Lines}
use Rattle.line_kinds.specs.declared.kinds.Who.{Who}
use Rattle.line_kinds.specs.declared.kinds.Who.TheVariants.{Thread as ThreadOn, Init, Irq, Fifo as FifoOn}
use Rattle.rt_threads.specs.declared.threads.Thread.{Thread}
use Rattle.rt_threads.specs.declared.threads.State.{State}
use Rattle.rt_threads.specs.declared.threads.State.TheVariants.{Ready, Waiting, Suspended}
use Rattle.rt_ready.specs.Order.{Arrival}
use Rattle.rt_fifos.specs.Fifos.{Fifo}
use Rattle.gate_table.specs.Names.{gate_of}
use Rattle.gate_table.specs.Gates.{GateParts, Answered, gate, after_fault, after_return}

-- A state: thread 0 waits until 6, threads 1 and 2 until 4, thread 3 is suspended, and thread 4 is ready, with the period 5 and its next
-- due at 30. The 16 bytes of the side, from 100h on, are 1 to 16. Line 7 is held with its handler at 40h, and marked; soft line 17 is
-- taken. FIFO 1 of 8 bytes has 65, 66 and 67 in it, and a handler at 90h that isn't marked; FIFO 2 of 4 bytes is empty, and its handler
-- at 80h is marked

abbrev pub thread : ℕ → State → Thread
thread priority state = record { registers = starting 0 0 0 true; priority = priority; state = state; period = 0; next = 0 }

abbrev pub periodic : State → ℕ → Thread
periodic state next = record { registers = starting 0 0 0 true; priority = 9; state = state; period = 5; next = next }

abbrev pub some_threads : List (Option Thread)
some_threads =
    Some (thread 7 (Waiting 6)) ∷ Some (thread 7 (Waiting 4)) ∷ Some (thread 7 (Waiting 4)) ∷ Some (thread 7 Suspended)
    ∷ Some (periodic Ready 30) ∷ replicate 59 None

abbrev pub first_arrival : Arrival
first_arrival = record { id = 4; since = 1 }

abbrev pub some_irqs : Lines
some_irqs = record { entries = slice_set (replicate 16 None) 7 (Some 0x40); marked = 0x80; soft = 0x20000 }

abbrev pub fifo_one : List ℕ → Fifo
fifo_one bytes = record { size = 8; bytes = bytes; handler = Some 0x90; mark = false }

abbrev pub fifo_two : List ℕ → Fifo
fifo_two bytes = record { size = 4; bytes = bytes; handler = Some 0x80; mark = true }

abbrev pub some_fifos : Option Fifo → Option Fifo → Option Fifo → List (Option Fifo)
some_fifos one two three = None ∷ one ∷ two ∷ three ∷ replicate 60 None

unfoldable pub some_parts : GateParts
some_parts = record {
  threads = some_threads;
  ready = first_arrival ∷ [];
  irqs = some_irqs;
  fifos = some_fifos (Some (fifo_one (65 ∷ 66 ∷ 67 ∷ []))) (Some (fifo_two [])) None;
  side = record { first = 0x100; bytes = range_with_len 1 16 };
}

-- Results: what calls answer in tick 40. No answer is a fault

pub record Row : Type 0 where
  pub caller : Who
  pub function : ℕ
  pub ebx : ℕ
  pub ecx : ℕ
  pub edx : ℕ
  pub answer : Option ℤ

abbrev pub row : Who → ℕ → ℕ → ℕ → ℕ → Option ℤ → Row
row caller function ebx ecx edx answer = record { caller = caller; function = function; ebx = ebx; ecx = ecx; edx = edx; answer = answer }

abbrev pub yields : ℕ → Option ℤ
yields n = Some (pos n)

-- -22, -19, -16, -28 and -11
abbrev pub invalid : Option ℤ
invalid = Some (failed 22)

abbrev pub absent : Option ℤ
absent = Some (failed 19)

abbrev pub busy : Option ℤ
busy = Some (failed 16)

abbrev pub full : Option ℤ
full = Some (failed 28)

abbrev pub again : Option ℤ
again = Some (failed 11)

abbrev pub rows : List Row
rows =
    row (Init 0) 1 0 0 0 (yields 40)
    ∷ row (Init 0) 2 0x40 256 0x110 invalid ∷ row (Init 0) 2 0x40 5 3 invalid ∷ row (Init 0) 2 0x40 5 0x111 invalid ∷ row (Init 0) 2 0x40 5 0x110 (yields 5)
    ∷ row (Init 0) 3 9 0 0 invalid ∷ row (Init 0) 3 0 0 0 (yields 0)
    ∷ row (Init 0) 4 9 0 0 invalid ∷ row (Init 0) 4 0 0 0 (yields 0)
    ∷ row (Init 0) 5 64 0 0 invalid ∷ row (Init 0) 5 3 0 0 (yields 0)
    ∷ row (Init 0) 6 9 50 1 invalid ∷ row (Init 0) 6 0 50 0 invalid ∷ row (Init 0) 6 0 50 1000000001 invalid ∷ row (Init 0) 6 0 2000000001 1 invalid
    ∷ row (Init 0) 6 0 2000000000 1000000000 (yields 0)
    ∷ row (Init 0) 7 0 0 0 invalid ∷ row (ThreadOn 0) 7 0 0 0 invalid ∷ row (ThreadOn 4) 7 0 0 0 (yields 0)
    ∷ row (Irq 7) 8 0 0 0 invalid ∷ row (ThreadOn 4) 8 0 0 0 (yields 4)
    ∷ row (Init 0) 9 9 0 0 invalid ∷ row (Init 0) 9 0 256 0 invalid ∷ row (Init 0) 9 0 255 0 (yields 0)
    ∷ row (Init 0) 10 9 0 0 invalid ∷ row (Init 0) 10 4 0 0 (yields 9)
    ∷ row (Init 0) 11 64 1 0 invalid ∷ row (Init 0) 11 3 0 0 invalid ∷ row (Init 0) 11 3 16385 0 invalid ∷ row (Init 0) 11 2 1 0 busy ∷ row (Init 0) 11 3 16384 0 (yields 0)
    ∷ row (Init 0) 12 3 0 0 absent ∷ row (Init 0) 12 2 0 0 (yields 0)
    ∷ row (Init 0) 13 3 0 257 invalid ∷ row (Init 0) 13 3 0x10f 2 None ∷ row (Init 0) 13 3 0x100 1 absent ∷ row (Init 0) 13 2 0x100 5 full ∷ row (Init 0) 13 2 0x100 4 (yields 4)
    ∷ row (Init 0) 14 3 0 257 invalid ∷ row (Init 0) 14 3 0xff 1 None ∷ row (Init 0) 14 3 0x100 1 absent ∷ row (Init 0) 14 2 0x100 8 (yields 0)
    ∷ row (Init 0) 15 3 0 0 absent ∷ row (Init 0) 15 2 0 0 (yields 0)
    ∷ row (Init 0) 16 3 0 0 absent ∷ row (Init 0) 16 2 0 0 (yields 0)
    ∷ row (Init 0) 17 3 0 0 absent ∷ row (Init 0) 17 2 0 0 (yields 0)
    ∷ row (Init 0) 18 0 0 0 invalid ∷ row (Init 0) 18 2 0 0 invalid ∷ row (Init 0) 18 4 0 0 invalid ∷ row (Init 0) 18 16 0 0 invalid ∷ row (Init 0) 18 7 0 0 busy ∷ row (Init 0) 18 15 0 0 (yields 0)
    ∷ row (Init 0) 19 9 0 0 invalid ∷ row (Init 0) 19 7 0 0 (yields 0)
    ∷ row (Init 0) 20 0 0 0 (yields 16)
    ∷ row (Init 0) 21 16 0 0 invalid ∷ row (Init 0) 21 4294967295 0 0 invalid
    ∷ row (Init 0) 22 16 0 0 invalid ∷ row (Init 0) 22 4294967295 0 0 invalid ∷ row (Init 0) 22 15 0 0 (yields 0)
    ∷ row (FifoOn 2) 23 1 0 0 invalid ∷ row (ThreadOn 4) 23 0 0 0 invalid ∷ row (ThreadOn 4) 23 1000000001 0 0 invalid ∷ row (ThreadOn 4) 23 1000000000 0 0 (yields 0)
    ∷ row (Init 0) 24 0 257 0 invalid ∷ row (Init 0) 24 0x110 1 0 None ∷ row (Init 0) 24 0x110 0 0 (yields 0)
    ∷ row (Init 0) 0 0 0 0 invalid ∷ row (Init 0) 25 0 0 0 invalid
    ∷ []

abbrev pub answer_in : GateParts → Who → ℕ → ℕ → ℕ → ℕ → ℕ → Option Answered
answer_in p who function ebx ecx edx esi =
    gate 40 who (record { function = function; ebx = ebx; ecx = ecx; edx = edx; esi = esi }) p (gate_of function)

abbrev pub result_of : Option Answered → Option ℤ
result_of a = option_map (λ (x : Answered). x.result) a

abbrev pub GateRows : Type 0
GateRows = map (λ (r : Row). result_of (answer_in some_parts r.caller r.function r.ebx r.ecx r.edx 0)) rows ≡ map (λ (r : Row). r.answer) rows

-- and where no thread and no soft line is left
unfoldable pub full_parts : GateParts
full_parts = record some_parts {
  threads = replicate 64 (Some (thread 1 Ready));
  irqs = record some_irqs { soft = 0xffff0000 };
}

pub record Exhausted : Type 0 where
  pub threads : result_of (answer_in full_parts (Init 0) 2 0x40 5 0x110 0) ≡ again
  pub soft_lines : result_of (answer_in full_parts (Init 0) 20 0 0 0 0) ≡ busy
  pub taken : result_of (answer_in full_parts (Init 0) 21 31 0 0 0) ≡ yields 0

-- What each gate leaves, called in tick 40 by thread 4

abbrev pub after : ℕ → ℕ → ℕ → ℕ → Option GateParts
after function ebx ecx edx = option_map (λ (x : Answered). x.after) (answer_in some_parts (ThreadOn 4) function ebx ecx edx 9)

abbrev pub threads_are : ℕ → Thread → List Arrival → Option GateParts
threads_are i th ready = Some (record some_parts { threads = slice_set some_threads i (Some th); ready = ready })

abbrev pub fifos_are : Option Fifo → Option Fifo → Option Fifo → Option GateParts
fifos_are one two three = Some (record some_parts { fifos = some_fifos one two three })

abbrev pub irqs_are : Lines → Option GateParts
irqs_are irqs = Some (record some_parts { irqs = irqs })

abbrev pub bytes_of_one : List ℕ
bytes_of_one = 65 ∷ 66 ∷ 67 ∷ []

abbrev pub one_as_it_is : Option Fifo
one_as_it_is = Some (fifo_one bytes_of_one)

abbrev pub two_as_it_is : Option Fifo
two_as_it_is = Some (fifo_two [])

-- a new thread has its place, the way to the stub on its stack, and comes last
abbrev pub new_one : Thread
new_one = record {
  registers = record { general = 9 ∷ 0 ∷ 0 ∷ 0 ∷ 0x10c ∷ 0 ∷ 0 ∷ 0 ∷ []; eip = 0x40; eflags = flags_of 0x202 };
  priority = 11;
  state = Ready;
  period = 0;
  next = 0;
}

pub record ThreadGates : Type 0 where
  pub gethrtime : after 1 0 0 0 ≡ Some some_parts
  pub create : after 2 0x40 11 0x110 ≡ Some (record some_parts {
    threads = slice_set some_threads 5 (Some new_one);
    ready = first_arrival ∷ record { id = 5; since = 40 } ∷ [];
    side = record { first = 0x100; bytes = range_with_len 1 12 ++ (0 ∷ 1 ∷ 0 ∷ 0 ∷ []) };
  })
  pub delete : after 3 4 0 0 ≡ Some (record some_parts { threads = slice_set some_threads 4 None; ready = [] })
  pub suspend : after 4 4 0 0 ≡ threads_are 4 (periodic Suspended 30) []
  pub suspend_waiting : after 4 0 0 0 ≡ threads_are 0 (thread 7 Suspended) (first_arrival ∷ [])
  pub wakeup : after 5 3 0 0 ≡ threads_are 3 (thread 7 Ready) (first_arrival ∷ record { id = 3; since = 40 } ∷ [])
  pub wakeup_waiting : after 5 0 0 0 ≡ threads_are 0 (thread 7 Ready) (first_arrival ∷ record { id = 0; since = 40 } ∷ [])
  pub wakeup_ready : after 5 4 0 0 ≡ Some some_parts
  pub make_periodic : after 6 3 50 8 ≡ threads_are 3 (record (thread 7 (Waiting 50)) { period = 8; next = 50 }) (first_arrival ∷ [])
  pub make_periodic_ready : after 6 4 50 8 ≡ threads_are 4 (record (periodic (Waiting 50) 50) { period = 8 }) []
  pub wait : after 7 0 0 0 ≡ threads_are 4 (periodic (Waiting 35) 35) []
  pub self : after 8 0 0 0 ≡ Some some_parts
  pub setprio : after 9 4 255 0 ≡ threads_are 4 (record (periodic Ready 30) { priority = 255 }) (first_arrival ∷ [])
  pub getprio : after 10 4 0 0 ≡ Some some_parts
  pub nanosleep : after 23 7 0 0 ≡ threads_are 4 (periodic (Waiting 47) 30) []

pub record FifoGates : Type 0 where
  pub create : after 11 3 16384 0 ≡ fifos_are one_as_it_is two_as_it_is (Some (record { size = 16384; bytes = []; handler = None; mark = false }))
  pub destroy : after 12 2 0 0 ≡ fifos_are one_as_it_is None None
  pub put : after 13 1 0x101 2 ≡ fifos_are (Some (fifo_one (65 ∷ 66 ∷ 67 ∷ 2 ∷ 3 ∷ []))) two_as_it_is None
  pub get : after 14 1 0x108 2 ≡ Some (record some_parts {
    fifos = some_fifos (Some (fifo_one (67 ∷ []))) two_as_it_is None;
    side = record { first = 0x100; bytes = range_with_len 1 8 ++ (65 ∷ 66 ∷ range_with_len 11 6) };
  })
  pub flush : after 15 1 0 0 ≡ fifos_are (Some (fifo_one [])) two_as_it_is None
  pub flush_marked : after 15 2 0 0 ≡ Some some_parts
  pub create_handler : after 16 2 0xa0 0 ≡ fifos_are one_as_it_is (Some (record (fifo_two []) { handler = Some 0xa0 })) None
  pub unset_handler : after 16 2 0 0 ≡ fifos_are one_as_it_is (Some (record (fifo_two []) { handler = None; mark = false })) None
  pub count : after 17 1 0 0 ≡ Some some_parts

pub record LineGates : Type 0 where
  pub request : after 18 9 0x50 0 ≡ irqs_are (record some_irqs { entries = slice_set some_irqs.entries 9 (Some 0x50) })
  pub free : after 19 7 0 0 ≡ irqs_are (record some_irqs { entries = replicate 16 None; marked = 0 })
  pub get_soft : after 20 0 0 0 ≡ irqs_are (record some_irqs { soft = 0x30000 })
  pub free_soft : after 21 17 0 0 ≡ irqs_are (record some_irqs { soft = 0 })
  pub pend : after 22 17 0 0 ≡ Some some_parts
  pub print : answer_in some_parts (Init 0) 24 0x104 3 0 0 ≡ Some (record { result = pos 0; printed = Some (5 ∷ 6 ∷ 7 ∷ []); after = some_parts })
  pub print_nothing : answer_in some_parts (Init 0) 24 0x104 0 0 0 ≡ Some (record { result = pos 0; printed = Some []; after = some_parts })

-- A gate that is refused leaves everything
pub record Refused : Type 0 where
  pub create : after 2 0x40 256 0x110 ≡ Some some_parts
  pub suspend : after 4 9 0 0 ≡ Some some_parts
  pub make_periodic : after 6 4 2000000001 8 ≡ Some some_parts
  pub setprio : after 9 4 256 0 ≡ Some some_parts
  pub put : after 13 2 0x100 5 ≡ Some some_parts
  pub request : after 18 7 0x50 0 ≡ Some some_parts
  pub free : after 19 9 0 0 ≡ Some some_parts
  pub free_soft : after 21 16 0 0 ≡ Some some_parts
  pub nanosleep : after 23 0 0 0 ≡ Some some_parts
  pub other : after 25 0 0 0 ≡ Some some_parts

-- An activity that faults: a thread is gone, as where it returns; a handler is gone, with its mark; an init leaves everything
pub record Faults : Type 0 where
  pub thread : after_fault (ThreadOn 4) some_parts ≡ record some_parts { threads = slice_set some_threads 4 None; ready = [] }
  pub line : after_fault (Irq 7) some_parts ≡ record some_parts { irqs = record some_irqs { entries = replicate 16 None; marked = 0 } }
  pub fifo : after_fault (FifoOn 2) some_parts ≡ record some_parts { fifos = some_fifos one_as_it_is (Some (record (fifo_two []) { handler = None; mark = false })) None }
  pub init : after_fault (Init 0) some_parts ≡ some_parts
  pub thread_returns : after_return (ThreadOn 4) some_parts ≡ record some_parts { threads = slice_set some_threads 4 None; ready = [] }
  pub line_returns : after_return (Irq 7) some_parts ≡ some_parts
