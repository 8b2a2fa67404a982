-- The table of gates by its rows: each comes to the same over threads with other registers of one.
use Rattle.std.proofs.Common.{◌≡◌, ℕ, ◌+◌, ◌-◌, Bool, true, false, ◌&&◌, refl, ap, ◌∙◌, Option, Some, None, option_map, is_some, nat_lt}
use Rattle.std.specs.Prelude.{if◌then◌else◌}
use Rattle.memory_model.specs.Side.{first_outside, word_stored}
use Rattle.cpu_state.specs.declared.registers.Registers.{Registers}
use Rattle.cpu_state.specs.Registers.{starting}
use Rattle.rt_constants.specs.declared.errors.TheConstants.{EINVAL}
use Rattle.rt_constants.specs.declared.limits.TheConstants.{BYTES_LIMIT}
use Rattle.line_kinds.specs.declared.kinds.Who.{Who}
use Rattle.line_kinds.specs.declared.kinds.Who.TheVariants.{Guest, Thread as ThreadOn, Init, Irq, Fifo as FifoOn}
use Rattle.rt_threads.specs.declared.threads.Thread.{Thread}
use Rattle.rt_threads.specs.declared.threads.State.TheVariants.{Ready, Waiting, Suspended}
use Rattle.rt_threads.specs.Threads.{free_number, given_registers, has_period, is_live, is_plan, is_priority, is_span, new_thread, priority_in, priority_of, thread_at, with_next, with_period, with_priority, with_state, with_thread}
use Rattle.rt_irqs.specs.Irqs.{is_pendable}
use Rattle.rt_ready.specs.Order.{is_ready, joined, without}
use Rattle.gate_table.specs.declared.request.Request.{Request}
use Rattle.gate_table.specs.declared.names.GateName.{GateName}
use Rattle.gate_table.specs.declared.names.GateName.TheVariants.{Gethrtime, PthreadCreate, PthreadDelete, PthreadSuspend, PthreadWakeup, PthreadMakePeriodic, PthreadWait, PthreadSelf, PthreadSetprio, PthreadGetprio, FifoCreate, FifoDestroy, FifoPut, FifoGet, FifoFlush, FifoCreateHandler, FifoCount, RequestIrq, FreeIrq, GetSoftIrq, FreeSoftIrq, PendIrq, Nanosleep, Print, Other}
use Rattle.gate_table.specs.Gates.{after_fault, after_return, Answered, created, deleted, fails, gate, gate_in, gate_row, GateParts, has_stack, left, nanosleep, of_thread, on_live, pthread_create, pthread_wait, Range, range_of, succeeds, woken}
use Rattle.activity_contexts.specs.Laws.{answer_overlaid, overlaid}
use Rattle.activity_contexts.proofs.Changes.{changes_commute, free_apart, free_same, none_commutes, read_same, set_apart}

live_map : (r : Registers) (slot : Option Thread) → is_some (option_map (given_registers r) slot) ≡ is_some slot
live_map r None = refl
live_map r (Some th) = refl

live_same : (p : GateParts) (i j : ℕ) (r : Registers) → is_live (overlaid i r p).threads j ≡ is_live p.threads j
live_same p i j r = read_same is_some (given_registers r) (live_map r) p.threads i j

period_map : (r : Registers) (slot : Option Thread) → has_period (option_map (given_registers r) slot) ≡ has_period slot
period_map r None = refl
period_map r (Some th) = refl

priority_map : (r : Registers) (slot : Option Thread) → priority_in (option_map (given_registers r) slot) ≡ priority_in slot
priority_map r None = refl
priority_map r (Some th) = refl

-- one of two answers, by a test that comes out the same
either : (i : ℕ) (r : Registers) (now before : Bool) (a' a b' b : Answered) → now ≡ before → a' ≡ answer_overlaid i r a → b' ≡ answer_overlaid i r b
    → (if now then a' else b') ≡ answer_overlaid i r (if before then a else b)
either i r now true a' a b' b t e f = rw t e
either i r now false a' a b' b t e f = rw t f

live_row : (p : GateParts) (i j : ℕ) (r : Registers) (a' a : Answered) → a' ≡ answer_overlaid i r a → on_live j (overlaid i r p) a' ≡ answer_overlaid i r (on_live j p a)
live_row p i j r a' a e = either i r (is_live (overlaid i r p).threads j) (is_live p.threads j) a' a (fails EINVAL (overlaid i r p)) (fails EINVAL p) (live_same p i j r) e refl

test_row : (b : Bool) (p : GateParts) (i : ℕ) (r : Registers) (a' a : Answered) → a' ≡ answer_overlaid i r a
    → (if b then a' else fails EINVAL (overlaid i r p)) ≡ answer_overlaid i r (if b then a else fails EINVAL p)
test_row b p i r a' a e = either i r b b a' a (fails EINVAL (overlaid i r p)) (fails EINVAL p) refl e refl

thread_row : (who : Who) (p : GateParts) (i : ℕ) (r : Registers) (f' f : ℕ → Answered) → ((k : ℕ) → f' k ≡ answer_overlaid i r (f k))
    → of_thread who (overlaid i r p) f' ≡ answer_overlaid i r (of_thread who p f)
thread_row (ThreadOn k) p i r f' f e = e k
thread_row Guest p i r f' f e = refl
thread_row (Init n) p i r f' f e = refl
thread_row (Irq line) p i r f' f e = refl
thread_row (FifoOn f) p i r f' g e = refl

-- a thread that leaves the ready list
left_row : (p : GateParts) (i j : ℕ) (r : Registers) (change : Thread → Thread) → ((th : Thread) → change (given_registers r th) ≡ given_registers r (change th))
    → succeeds 0 (left j change (overlaid i r p)) ≡ answer_overlaid i r (succeeds 0 (left j change p))
left_row p i j r change e = ap (λ ts. succeeds 0 (record p { threads = ts; ready = without j p.ready })) (changes_commute p.threads i j (given_registers r) change e)

woken_in : (b : Bool) (t : ℕ) (p : GateParts) (i j : ℕ) (r : Registers)
    → succeeds 0 (if b then overlaid i r p else record p { threads = with_thread j (with_state Ready) (overlaid i r p).threads; ready = joined j t p.ready })
    ≡ answer_overlaid i r (succeeds 0 (if b then p else record p { threads = with_thread j (with_state Ready) p.threads; ready = joined j t p.ready }))
woken_in true t p i j r = refl
woken_in false t p i j r = ap (λ ts. succeeds 0 (record p { threads = ts; ready = joined j t p.ready })) (changes_commute p.threads i j (given_registers r) (with_state Ready) (λ th. refl))

created_in : (t : ℕ) (q : Request) (p : GateParts) (i : ℕ) (r : Registers) (o : Option ℕ) → free_number p.threads ≡ o → is_live p.threads i ≡ true
    → created t q (overlaid i r p) o ≡ answer_overlaid i r (created t q p o)
created_in t q p i r None h live = refl
created_in t q p i r (Some j) h live =
    ap (λ ts. succeeds j (record p { side = word_stored p.side (q.edx - 4) 4 p.side.first; threads = ts; ready = joined j t p.ready }))
    (set_apart p.threads i j (given_registers r) (Some (new_thread q.ecx (starting q.ebx q.esi (q.edx - 4) true))) (free_apart p.threads i j live h))

create_row : (t : ℕ) (q : Request) (p : GateParts) (i : ℕ) (r : Registers) → is_live p.threads i ≡ true → pthread_create t q (overlaid i r p) ≡ answer_overlaid i r (pthread_create t q p)
create_row t q p i r live = test_row (is_priority q.ecx && has_stack q p) p i r (created t q (overlaid i r p) (free_number (overlaid i r p).threads)) (created t q p (free_number p.threads))
    (ap (created t q (overlaid i r p)) (free_same p.threads i (given_registers r)) ∙ created_in t q p i r (free_number p.threads) refl live)

row : (t : ℕ) (who : Who) (q : Request) (p : GateParts) (name : GateName) (i : ℕ) (r : Registers) → is_live p.threads i ≡ true
    → gate_row t who q (overlaid i r p) name ≡ answer_overlaid i r (gate_row t who q p name)
row t who q p Gethrtime i r live = refl
row t who q p PthreadCreate i r live = create_row t q p i r live
row t who q p PthreadDelete i r live = live_row p i q.ebx r (succeeds 0 (deleted q.ebx (overlaid i r p))) (succeeds 0 (deleted q.ebx p))
    (ap (λ ts. succeeds 0 (record p { threads = ts; ready = without q.ebx p.ready })) (none_commutes p.threads i q.ebx (given_registers r)))
row t who q p PthreadSuspend i r live = live_row p i q.ebx r _ (succeeds 0 (left q.ebx (with_state Suspended) p)) (left_row p i q.ebx r (with_state Suspended) (λ th. refl))
row t who q p PthreadWakeup i r live = live_row p i q.ebx r (succeeds 0 (woken t q.ebx (overlaid i r p))) (succeeds 0 (woken t q.ebx p)) (woken_in (is_ready q.ebx p.ready) t p i q.ebx r)
row t who q p PthreadMakePeriodic i r live =
    let change = with_period q.ecx q.edx in
    live_row p i q.ebx r _ (if is_plan q.ecx q.edx then succeeds 0 (left q.ebx change p) else fails EINVAL p)
    (test_row (is_plan q.ecx q.edx) p i r (succeeds 0 (left q.ebx change (overlaid i r p))) (succeeds 0 (left q.ebx change p)) (left_row p i q.ebx r change (λ th. refl)))
row t who q p PthreadWait i r live = thread_row who p i r (pthread_wait (overlaid i r p)) (pthread_wait p) (λ k.
    either i r (has_period (thread_at (overlaid i r p).threads k)) (has_period (thread_at p.threads k)) (succeeds 0 (left k with_next (overlaid i r p))) (succeeds 0 (left k with_next p)) (fails EINVAL (overlaid i r p)) (fails EINVAL p)
    (read_same has_period (given_registers r) (period_map r) p.threads i k) (left_row p i k r with_next (λ th. refl)) refl)
row t who q p PthreadSelf i r live = thread_row who p i r (λ k. succeeds k (overlaid i r p)) (λ k. succeeds k p) (λ k. refl)
row t who q p PthreadSetprio i r live =
    let change = with_priority q.ecx in
    live_row p i q.ebx r _ (if is_priority q.ecx then succeeds 0 (record p { threads = with_thread q.ebx change p.threads }) else fails EINVAL p)
    (test_row (is_priority q.ecx) p i r (succeeds 0 (record p { threads = with_thread q.ebx change (overlaid i r p).threads })) (succeeds 0 (record p { threads = with_thread q.ebx change p.threads }))
    (ap (λ ts. succeeds 0 (record p { threads = ts })) (changes_commute p.threads i q.ebx (given_registers r) change (λ th. refl))))
row t who q p PthreadGetprio i r live =
    live_row p i q.ebx r (succeeds (priority_of (overlaid i r p).threads q.ebx) (overlaid i r p)) (succeeds (priority_of p.threads q.ebx) p)
    (ap (λ n. succeeds n (overlaid i r p)) (read_same priority_in (given_registers r) (priority_map r) p.threads i q.ebx))
row t who q p FifoCreate i r live = refl
row t who q p FifoDestroy i r live = refl
row t who q p FifoPut i r live = refl
row t who q p FifoGet i r live = refl
row t who q p FifoFlush i r live = refl
row t who q p FifoCreateHandler i r live = refl
row t who q p FifoCount i r live = refl
row t who q p RequestIrq i r live = refl
row t who q p FreeIrq i r live = refl
row t who q p GetSoftIrq i r live = refl
row t who q p FreeSoftIrq i r live = refl
row t who q p PendIrq i r live = test_row (is_pendable p.irqs q.ebx) p i r (succeeds 0 (overlaid i r p)) (succeeds 0 p) refl
row t who q p Nanosleep i r live = thread_row who p i r (nanosleep t q (overlaid i r p)) (nanosleep t q p) (λ k.
    test_row (is_span q.ebx) p i r (succeeds 0 (left k (with_state (Waiting (t + q.ebx))) (overlaid i r p))) (succeeds 0 (left k (with_state (Waiting (t + q.ebx))) p))
    (left_row p i k r (with_state (Waiting (t + q.ebx))) (λ th. refl)))
row t who q p Print i r live = refl
row t who q p Other i r live = refl

-- a gate with a range of memory fails or faults before its row answers
ranged : (many outside : Bool) (i : ℕ) (r : Registers) (a' a b' b : Answered) → a' ≡ answer_overlaid i r a → b' ≡ answer_overlaid i r b
    → (if many then Some a' else if outside then None else Some b') ≡ option_map (answer_overlaid i r) (if many then Some a else if outside then None else Some b)
ranged true outside i r a' a b' b e f = ap Some e
ranged false true i r a' a b' b e f = refl
ranged false false i r a' a b' b e f = ap Some f

gate_kept : (t : ℕ) (who : Who) (q : Request) (p : GateParts) (name : GateName) (i : ℕ) (r : Registers) (range : Option Range) → is_live p.threads i ≡ true
    → gate_in t who q (overlaid i r p) name range ≡ option_map (answer_overlaid i r) (gate_in t who q p name range)
gate_kept t who q p name i r None live = ap Some (row t who q p name i r live)
gate_kept t who q p name i r (Some range) live =
    ranged (nat_lt BYTES_LIMIT range.count) (is_some (first_outside p.side range.place range.count)) i r
    (fails EINVAL (overlaid i r p)) (fails EINVAL p) (gate_row t who q (overlaid i r p) name) (gate_row t who q p name) refl (row t who q p name i r live)

pub gates_kept : (t : ℕ) (who : Who) (q : Request) (p : GateParts) (name : GateName) (i : ℕ) (r : Registers) → is_live p.threads i ≡ true
    → gate t who q (overlaid i r p) name ≡ option_map (answer_overlaid i r) (gate t who q p name)
gates_kept t who q p name i r live = gate_kept t who q p name i r (range_of q name) live

delete_kept : (p : GateParts) (i j : ℕ) (r : Registers) → deleted j (overlaid i r p) ≡ overlaid i r (deleted j p)
delete_kept p i j r = ap (λ ts. record p { threads = ts; ready = without j p.ready }) (none_commutes p.threads i j (given_registers r))

pub faults_kept : (who : Who) (p : GateParts) (i : ℕ) (r : Registers) → after_fault who (overlaid i r p) ≡ overlaid i r (after_fault who p)
faults_kept (ThreadOn j) p i r = delete_kept p i j r
faults_kept (Irq line) p i r = refl
faults_kept (FifoOn f) p i r = refl
faults_kept (Init n) p i r = refl
faults_kept Guest p i r = refl

pub returns_kept : (who : Who) (p : GateParts) (i : ℕ) (r : Registers) → after_return who (overlaid i r p) ≡ overlaid i r (after_return who p)
returns_kept (ThreadOn j) p i r = delete_kept p i j r
returns_kept (Irq line) p i r = refl
returns_kept (FifoOn f) p i r = refl
returns_kept (Init n) p i r = refl
returns_kept Guest p i r = refl
