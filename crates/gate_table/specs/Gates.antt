-- The gates of real-time activities, INT F8h by EAX, with their arguments in EBX, ECX, EDX and ESI: the calls of RTLinux 3 on
-- threads (pthread_create, pthread_delete_np, pthread_suspend_np, pthread_wakeup_np, pthread_make_periodic_np, pthread_wait_np,
-- gethrtime), on FIFOs (rtf_create and its kin) and on interrupts (rtl_request_irq, rtl_global_pend_irq and their kin), and POSIX's on
-- a thread's priority. Their numbers, registers and limits are this project's own.
use Rattle.std.specs.Prelude.{ℕ, ◌+◌, ◌-◌, nat_lt, nat_le, Bool, true, ◌&&◌, List, slice_set, if◌then◌else◌, Option, Some, None, is_some, ℤ, pos}
use Rattle.memory_model.specs.Side.{Side, inside, bytes_at, stored, word_stored, first_outside}
use Rattle.cpu_state.specs.declared.registers.Registers.{Registers}
use Rattle.cpu_state.specs.Registers.{starting, eax, ebx, ecx, edx, esi}
use Rattle.rt_constants.specs.Errors.{failed}
use Rattle.rt_constants.specs.declared.errors.TheConstants.{EAGAIN, EINVAL}
use Rattle.rt_constants.specs.declared.limits.TheConstants.{BYTES_LIMIT}
use Rattle.rt_irqs.specs.Irqs.{Lines, request_result, requested, free_result, freed, free_soft_line, line_result, line_taken, free_soft_result, soft_freed, is_pendable}
use Rattle.line_kinds.specs.declared.kinds.Who.{Who}
use Rattle.line_kinds.specs.declared.kinds.Who.TheVariants.{Guest, Thread as ThreadOn, Init, Irq, Fifo as FifoOn}
use Rattle.rt_threads.specs.declared.threads.Thread.{Thread}
use Rattle.rt_threads.specs.declared.threads.State.TheVariants.{Ready, Waiting, Suspended}
use Rattle.rt_threads.specs.Threads.{thread_at, is_live, priority_of, with_thread, with_state, with_period, with_next, with_priority, new_thread, free_number, has_period, is_priority, is_span, is_plan}
use Rattle.rt_ready.specs.Order.{Arrival, is_ready, without, joined}
use Rattle.rt_fifos.specs.Fifos.{Fifo, FifoReply, put_reply, get_reply, create_reply, destroy_reply, flush_reply, set_handler_reply, count_reply, without_handler}
use Rattle.gate_table.specs.declared.request.Request.{Request}
use Rattle.gate_table.specs.declared.names.GateName.{GateName}
use Rattle.gate_table.specs.declared.names.GateName.TheVariants.{Gethrtime, PthreadCreate, PthreadDelete, PthreadSuspend, PthreadWakeup, PthreadMakePeriodic, PthreadWait, PthreadSelf, PthreadSetprio, PthreadGetprio, FifoCreate, FifoDestroy, FifoPut, FifoGet, FifoFlush, FifoCreateHandler, FifoCount, RequestIrq, FreeIrq, GetSoftIrq, FreeSoftIrq, PendIrq, Nanosleep, Print, Other}

-- what an activity asks for, by its registers
abbrev pub request_of : Registers → Request
request_of r = record { function = eax r; ebx = ebx r; ecx = ecx r; edx = edx r; esi = esi r }

-- what gates use of the real-time side: thread n at place n of 64, the ready threads in order of arrival, the interrupt lines, FIFO n
-- at place n of 64, and the side
pub record GateParts : Type 0 where
  pub threads : List (Option Thread)
  pub ready : List Arrival
  pub irqs : Lines
  pub fifos : List (Option Fifo)
  pub side : Side

-- what a gate answers: its result, the bytes that it prints, and the parts after it
pub record Answered : Type 0 where
  pub result : ℤ
  pub printed : Option (List ℕ)
  pub after : GateParts

abbrev pub answers : ℤ → GateParts → Answered
answers result p = record { result = result; printed = None; after = p }

abbrev pub succeeds : ℕ → GateParts → Answered
succeeds n p = answers (pos n) p

-- a gate that fails changes nothing
abbrev pub fails : ℕ → GateParts → Answered
fails error p = answers (failed error) p

-- Threads

-- what is asked of a thread: it is to be a live one
abbrev pub on_live : ℕ → GateParts → Answered → Answered
on_live i p answer = if is_live p.threads i then answer else fails EINVAL p

-- 2: a thread begins at EBX with ESI in EAX, IF set, and all else 0, on a stack below EDX whose top word leads to the stub
abbrev pub has_stack : Request → GateParts → Bool
has_stack q p = nat_le 4 q.edx && inside p.side (q.edx - 4) 4

abbrev pub created : ℕ → Request → GateParts → Option ℕ → Answered
created t q p None = fails EAGAIN p
created t q p (Some i) = succeeds i (record p {
  side = word_stored p.side (q.edx - 4) 4 p.side.first;
  threads = slice_set p.threads i (Some (new_thread q.ecx (starting q.ebx q.esi (q.edx - 4) true)));
  ready = joined i t p.ready;
})

-- it has the lowest free number, and is ready, last
abbrev pub pthread_create : ℕ → Request → GateParts → Answered
pthread_create t q p = if is_priority q.ecx && has_stack q p then created t q p (free_number p.threads) else fails EINVAL p

-- 3: a thread is gone from every list
abbrev pub deleted : ℕ → GateParts → GateParts
deleted i p = record p { threads = slice_set p.threads i None; ready = without i p.ready }

abbrev pub pthread_delete : ℕ → GateParts → Answered
pthread_delete i p = on_live i p (succeeds 0 (deleted i p))

-- a thread leaves the ready list with a change of its own
abbrev pub left : ℕ → (Thread → Thread) → GateParts → GateParts
left i change p = record p { threads = with_thread i change p.threads; ready = without i p.ready }

-- 4: a thread is suspended, neither ready nor with a due
abbrev pub suspended : ℕ → GateParts → GateParts
suspended i p = left i (with_state Suspended) p

abbrev pub pthread_suspend : ℕ → GateParts → Answered
pthread_suspend i p = on_live i p (succeeds 0 (suspended i p))

-- 5: a suspended or waiting thread becomes ready, last; a ready one stays as it is
abbrev pub woken : ℕ → ℕ → GateParts → GateParts
woken t i p =
    if is_ready i p.ready then p
    else record p { threads = with_thread i (with_state Ready) p.threads; ready = joined i t p.ready }

abbrev pub pthread_wakeup : ℕ → ℕ → GateParts → Answered
pthread_wakeup t i p = on_live i p (succeeds 0 (woken t i p))

-- 6: a thread has the period EDX and its next due at ECX, until which it waits
abbrev pub pthread_make_periodic : Request → GateParts → Answered
pthread_make_periodic q p = on_live q.ebx p (
    if is_plan q.ecx q.edx then succeeds 0 (left q.ebx (with_period q.ecx q.edx) p) else fails EINVAL p)

-- functions 7, 8 and 23 are for a calling thread: an init or a handler fails
abbrev pub of_thread : Who → GateParts → (ℕ → Answered) → Answered
of_thread (ThreadOn i) p answer = answer i
of_thread Guest p answer = fails EINVAL p
of_thread (Init n) p answer = fails EINVAL p
of_thread (Irq line) p answer = fails EINVAL p
of_thread (FifoOn f) p answer = fails EINVAL p

-- 7: the calling thread's next due grows by its period, and it waits until that
abbrev pub pthread_wait : GateParts → ℕ → Answered
pthread_wait p i = if has_period (thread_at p.threads i) then succeeds 0 (left i with_next p) else fails EINVAL p

-- 9: a thread has another priority, and keeps its place of arrival
abbrev pub pthread_setprio : Request → GateParts → Answered
pthread_setprio q p = on_live q.ebx p (
    if is_priority q.ecx then succeeds 0 (record p { threads = with_thread q.ebx (with_priority q.ecx) p.threads }) else fails EINVAL p)

-- 23: the calling thread waits EBX ticks from now on; its period and next due stay
abbrev pub nanosleep : ℕ → Request → GateParts → ℕ → Answered
nanosleep t q p i = if is_span q.ebx then succeeds 0 (left i (with_state (Waiting (t + q.ebx))) p) else fails EINVAL p

-- FIFOs: 11 makes FIFO EBX for ECX bytes, 12 takes it away, 15 empties it, 16 sets its handler to ECX, and 17 counts its bytes. 13 puts
-- bytes in, and 14 gives them to an address. A put of the real-time side marks no handler

abbrev pub on_fifos : FifoReply → GateParts → Answered
on_fifos reply p = answers reply.result (record p { fifos = reply.fifos })

abbrev pub fifo_get : ℕ → FifoReply → GateParts → Answered
fifo_get at reply p = answers reply.result (record p { fifos = reply.fifos; side = stored p.side at reply.bytes })

-- Lines: 18 asks for line EBX with its handler at ECX, and 19 gives it back; 20 asks for a soft line, and 21 gives it back

abbrev pub on_irqs : ℤ → Lines → GateParts → Answered
on_irqs result irqs p = answers result (record p { irqs = irqs })

-- 22: a hard line, or a soft one that is taken, is marked for the guest. The mark is the guest's, so nothing changes here
abbrev pub pend_irq : Request → GateParts → Answered
pend_irq q p = if is_pendable p.irqs q.ebx then succeeds 0 p else fails EINVAL p

-- 24: the ECX bytes at EBX are printed
abbrev pub print : Request → GateParts → Answered
print q p = record { result = pos 0; printed = Some (bytes_at p.side q.ebx q.ecx); after = p }

-- The table, one line a function

abbrev pub gate_row : ℕ → Who → Request → GateParts → GateName → Answered
gate_row t who q p Gethrtime = succeeds t p
gate_row t who q p PthreadCreate = pthread_create t q p
gate_row t who q p PthreadDelete = pthread_delete q.ebx p
gate_row t who q p PthreadSuspend = pthread_suspend q.ebx p
gate_row t who q p PthreadWakeup = pthread_wakeup t q.ebx p
gate_row t who q p PthreadMakePeriodic = pthread_make_periodic q p
gate_row t who q p PthreadWait = of_thread who p (pthread_wait p)
gate_row t who q p PthreadSelf = of_thread who p (λ i. succeeds i p)
gate_row t who q p PthreadSetprio = pthread_setprio q p
gate_row t who q p PthreadGetprio = on_live q.ebx p (succeeds (priority_of p.threads q.ebx) p)
gate_row t who q p FifoCreate = on_fifos (create_reply q.ebx q.ecx p.fifos) p
gate_row t who q p FifoDestroy = on_fifos (destroy_reply q.ebx p.fifos) p
gate_row t who q p FifoPut = on_fifos (put_reply q.ebx (bytes_at p.side q.ecx q.edx) p.fifos) p
gate_row t who q p FifoGet = fifo_get q.ecx (get_reply q.ebx q.edx p.fifos) p
gate_row t who q p FifoFlush = on_fifos (flush_reply q.ebx p.fifos) p
gate_row t who q p FifoCreateHandler = on_fifos (set_handler_reply q.ebx q.ecx p.fifos) p
gate_row t who q p FifoCount = on_fifos (count_reply q.ebx p.fifos) p
gate_row t who q p RequestIrq = on_irqs (request_result p.irqs q.ebx) (requested p.irqs q.ebx q.ecx) p
gate_row t who q p FreeIrq = on_irqs (free_result p.irqs q.ebx) (freed p.irqs q.ebx) p
gate_row t who q p GetSoftIrq = on_irqs (line_result (free_soft_line p.irqs.soft)) (line_taken (free_soft_line p.irqs.soft) p.irqs) p
gate_row t who q p FreeSoftIrq = on_irqs (free_soft_result p.irqs q.ebx) (soft_freed p.irqs q.ebx) p
gate_row t who q p PendIrq = pend_irq q p
gate_row t who q p Nanosleep = of_thread who p (nanosleep t q p)
gate_row t who q p Print = print q p
gate_row t who q p Other = fails EINVAL p

-- the place and the count of a gate that accesses memory
pub record Range : Type 0 where
  pub place : ℕ
  pub count : ℕ

abbrev pub range_of : Request → GateName → Option Range
range_of q FifoPut = Some (record { place = q.ecx; count = q.edx })
range_of q FifoGet = Some (record { place = q.ecx; count = q.edx })
range_of q Print = Some (record { place = q.ebx; count = q.ecx })
range_of q _ = None

-- a count above 256 fails, so that no line shows more bytes; then a byte of the range outside the side is a fault, and there is no
-- answer; then the table answers
abbrev pub gate_in : ℕ → Who → Request → GateParts → GateName → Option Range → Option Answered
gate_in t who q p gate None = Some (gate_row t who q p gate)
gate_in t who q p gate (Some range) =
    if nat_lt BYTES_LIMIT range.count then Some (fails EINVAL p)
    else if is_some (first_outside p.side range.place range.count) then None
    else Some (gate_row t who q p gate)

abbrev pub gate : ℕ → Who → Request → GateParts → GateName → Option Answered
gate t who q p name = gate_in t who q p name (range_of q name)

-- What a fault leaves, of which nothing is performed: a thread is deleted, a handler's line is freed as by gate 19, a FIFO loses its
-- handler, and an init ends. Where the line or the FIFO is gone already, that is all

abbrev pub after_fault : Who → GateParts → GateParts
after_fault (ThreadOn i) p = deleted i p
after_fault (Irq line) p = record p { irqs = freed p.irqs line }
after_fault (FifoOn f) p = record p { fifos = without_handler f p.fifos }
after_fault (Init n) p = p
after_fault Guest p = p

-- What a return leaves, INT F9h: a thread is deleted, an init or a handler ends

abbrev pub after_return : Who → GateParts → GateParts
after_return (ThreadOn i) p = deleted i p
after_return who p = p
