-- The table of gates, gone through once: what every change of the parts keeps, every gate keeps.
use Rattle.std.proofs.Common.{◌≡◌, ℕ, ◌+◌, Bool, true, false, refl, List, if◌then◌else◌, Option, Some, None, is_some}
use Rattle.memory_model.specs.Side.{Side, first_outside}
use Rattle.rt_constants.specs.declared.errors.TheConstants.{EINVAL}
use Rattle.line_kinds.specs.declared.kinds.Who.{Who}
use Rattle.line_kinds.specs.declared.kinds.Who.TheVariants.{Guest, Thread as ThreadOn, Init, Irq, Fifo as FifoOn}
use Rattle.rt_irqs.specs.Irqs.{requested, freed, free_soft_line, line_taken, soft_freed}
use Rattle.rt_threads.specs.declared.threads.State.TheVariants.{Waiting}
use Rattle.rt_threads.specs.Threads.{is_live, free_number, with_thread, with_state, with_period, with_next, with_priority, is_plan, is_priority, priority_of}
use Rattle.rt_fifos.specs.Fifos.{Fifo}
use Rattle.gate_table.specs.declared.names.GateName.{GateName}
use Rattle.gate_table.specs.declared.names.GateName.TheVariants.{Gethrtime, PthreadCreate, PthreadDelete, PthreadSuspend, PthreadWakeup, PthreadMakePeriodic, PthreadWait, PthreadSelf, PthreadSetprio, PthreadGetprio, FifoCreate, FifoDestroy, FifoPut, FifoGet, FifoFlush, FifoCreateHandler, FifoCount, RequestIrq, FreeIrq, GetSoftIrq, FreeSoftIrq, PendIrq, Nanosleep, Print, Other}
use Rattle.gate_table.specs.declared.request.Request.{Request}
use Rattle.gate_table.specs.Gates.{GateParts, Answered, succeeds, fails, created, deleted, left, suspended, woken, gate_row, Range, gate_in}

-- what gates do to the parts, each of which keeps a fact. The fact may say which gate it is of
pub record ChangesKeep (t : ℕ) (q : Request) (p : GateParts) (P : GateName → GateParts → Type 0) : Type 0 where
  pub same : (g : GateName) → P g p
  pub creates : P PthreadCreate (created t q p (free_number p.threads)).after
  pub deletes : P PthreadDelete (deleted q.ebx p)
  pub suspends : P PthreadSuspend (suspended q.ebx p)
  pub wakes : is_live p.threads q.ebx ≡ true → P PthreadWakeup (woken t q.ebx p)
  pub has_period : P PthreadMakePeriodic (left q.ebx (with_period q.ecx q.edx) p)
  pub waits : (i : ℕ) → P PthreadWait (left i with_next p)
  pub has_priority : P PthreadSetprio (record p { threads = with_thread q.ebx (with_priority q.ecx) p.threads })
  pub sleeps : (i : ℕ) → P Nanosleep (left i (with_state (Waiting (t + q.ebx))) p)
  pub fifos : (g : GateName) (fifos : List (Option Fifo)) → P g (record p { fifos = fifos })
  pub gets : (fifos : List (Option Fifo)) (side : Side) → P FifoGet (record p { fifos = fifos; side = side })
  pub requests : P RequestIrq (record p { irqs = requested p.irqs q.ebx q.ecx })
  pub frees : P FreeIrq (record p { irqs = freed p.irqs q.ebx })
  pub takes_soft : P GetSoftIrq (record p { irqs = line_taken (free_soft_line p.irqs.soft) p.irqs })
  pub frees_soft : P FreeSoftIrq (record p { irqs = soft_freed p.irqs q.ebx })

-- an answer by a test
by_test : (P : GateParts → Type 0) (b : Bool) (x y : Answered) → (b ≡ true → P x.after) → P y.after → P (if b then x else y).after
by_test P true x y f h = f refl
by_test P false x y f h = h

either : (P : GateParts → Type 0) (b : Bool) (x y : Answered) → P x.after → P y.after → P (if b then x else y).after
either P b x y f h = by_test P b x y (λ e. f) h

pub row_keeps : (t : ℕ) (who : Who) (q : Request) (p : GateParts) (P : GateName → GateParts → Type 0) → ChangesKeep t q p P → (g : GateName) → P g (gate_row t who q p g).after
row_keeps t who q p P k Gethrtime = k.same Gethrtime
row_keeps t who q p P k PthreadCreate = either (P PthreadCreate) _ (created t q p (free_number p.threads)) (fails EINVAL p) k.creates (k.same PthreadCreate)
row_keeps t who q p P k PthreadDelete = either (P PthreadDelete) _ (succeeds 0 (deleted q.ebx p)) (fails EINVAL p) k.deletes (k.same PthreadDelete)
row_keeps t who q p P k PthreadSuspend = either (P PthreadSuspend) _ (succeeds 0 (suspended q.ebx p)) (fails EINVAL p) k.suspends (k.same PthreadSuspend)
row_keeps t who q p P k PthreadWakeup = by_test (P PthreadWakeup) (is_live p.threads q.ebx) (succeeds 0 (woken t q.ebx p)) (fails EINVAL p) k.wakes (k.same PthreadWakeup)
row_keeps t who q p P k PthreadMakePeriodic =
    let done : Answered = succeeds 0 (left q.ebx (with_period q.ecx q.edx) p) in
    let none = k.same PthreadMakePeriodic in
    either (P PthreadMakePeriodic) _ (if is_plan q.ecx q.edx then done else fails EINVAL p) (fails EINVAL p) (either (P PthreadMakePeriodic) _ done (fails EINVAL p) k.has_period none) none
row_keeps t (ThreadOn i) q p P k PthreadWait = either (P PthreadWait) _ (succeeds 0 (left i with_next p)) (fails EINVAL p) (k.waits i) (k.same PthreadWait)
row_keeps t Guest q p P k PthreadWait = k.same PthreadWait
row_keeps t (Init i) q p P k PthreadWait = k.same PthreadWait
row_keeps t (Irq i) q p P k PthreadWait = k.same PthreadWait
row_keeps t (FifoOn i) q p P k PthreadWait = k.same PthreadWait
row_keeps t (ThreadOn i) q p P k PthreadSelf = k.same PthreadSelf
row_keeps t Guest q p P k PthreadSelf = k.same PthreadSelf
row_keeps t (Init i) q p P k PthreadSelf = k.same PthreadSelf
row_keeps t (Irq i) q p P k PthreadSelf = k.same PthreadSelf
row_keeps t (FifoOn i) q p P k PthreadSelf = k.same PthreadSelf
row_keeps t who q p P k PthreadSetprio =
    let done : Answered = succeeds 0 (record p { threads = with_thread q.ebx (with_priority q.ecx) p.threads }) in
    let none = k.same PthreadSetprio in
    either (P PthreadSetprio) _ (if is_priority q.ecx then done else fails EINVAL p) (fails EINVAL p) (either (P PthreadSetprio) _ done (fails EINVAL p) k.has_priority none) none
row_keeps t who q p P k PthreadGetprio = either (P PthreadGetprio) _ (succeeds (priority_of p.threads q.ebx) p) (fails EINVAL p) (k.same PthreadGetprio) (k.same PthreadGetprio)
row_keeps t who q p P k FifoCreate = k.fifos FifoCreate _
row_keeps t who q p P k FifoDestroy = k.fifos FifoDestroy _
row_keeps t who q p P k FifoPut = k.fifos FifoPut _
row_keeps t who q p P k FifoGet = k.gets _ _
row_keeps t who q p P k FifoFlush = k.fifos FifoFlush _
row_keeps t who q p P k FifoCreateHandler = k.fifos FifoCreateHandler _
row_keeps t who q p P k FifoCount = k.fifos FifoCount _
row_keeps t who q p P k RequestIrq = k.requests
row_keeps t who q p P k FreeIrq = k.frees
row_keeps t who q p P k GetSoftIrq = k.takes_soft
row_keeps t who q p P k FreeSoftIrq = k.frees_soft
row_keeps t who q p P k PendIrq = either (P PendIrq) _ (succeeds 0 p) (fails EINVAL p) (k.same PendIrq) (k.same PendIrq)
row_keeps t (ThreadOn i) q p P k Nanosleep = either (P Nanosleep) _ (succeeds 0 (left i (with_state (Waiting (t + q.ebx))) p)) (fails EINVAL p) (k.sleeps i) (k.same Nanosleep)
row_keeps t Guest q p P k Nanosleep = k.same Nanosleep
row_keeps t (Init i) q p P k Nanosleep = k.same Nanosleep
row_keeps t (Irq i) q p P k Nanosleep = k.same Nanosleep
row_keeps t (FifoOn i) q p P k Nanosleep = k.same Nanosleep
row_keeps t who q p P k Print = k.same Print
row_keeps t who q p P k Other = k.same Other

-- a gate with its range: a count that is too large, a byte outside, or the table's answer
either_option : (P : Option Answered → Type 0) (b : Bool) (x y : Option Answered) → P x → P y → P (if b then x else y)
either_option P true x y f h = f
either_option P false x y f h = h

pub in_range : (t : ℕ) (who : Who) (q : Request) (p : GateParts) (g : GateName) (P : Option Answered → Type 0) → P (Some (fails EINVAL p)) → P None → P (Some (gate_row t who q p g))
    → (range : Option Range) → P (gate_in t who q p g range)
in_range t who q p g P long outside row None = row
in_range t who q p g P long outside row (Some range) =
    either_option P _ (Some (fails EINVAL p)) (if is_some (first_outside p.side range.place range.count) then None else Some (gate_row t who q p g)) long
    (either_option P _ None (Some (gate_row t who q p g)) outside row)
