-- The registers of what is on, in the state of the real-time side.
use Rattle.std.proofs.Common.{◌≡◌, ℕ, List, refl, ap, ◌∙◌, subst, Option, Some, None, option_map, unwrap_or}
use Rattle.cpu_state.specs.declared.registers.Registers.{Registers}
use Rattle.line_kinds.specs.declared.kinds.Who.{Who}
use Rattle.line_kinds.specs.declared.kinds.Who.TheVariants.{Guest, Thread as ThreadOn, Init as InitOn, Irq as IrqOn, Fifo as FifoOn}
use Rattle.rt_threads.specs.declared.threads.Thread.{Thread as HeldThread}
use Rattle.rt_threads.specs.Threads.{given_registers, thread_at, with_thread}
use Rattle.gate_table.specs.Gates.{after_fault, after_return, GateParts}
use Rattle.activity_contexts.specs.Contexts.{activity_registers, guest_registers, idle_registers, live_threads, OnLive}
use Rattle.activity_contexts.specs.Laws.{parts_live}
use Rattle.activity_contexts.proofs.Changes.{given_last, given_own}
use Rattle.activity_contexts.proofs.Rows.{faults_kept, returns_kept}
use Rattle.module_gates.specs.Callers.{who}
use Rattle.module_gates.specs.declared.caller.Caller.{Caller}
use Rattle.module_gates.specs.declared.caller.Caller.TheVariants.{Init, Thread, Irq, Fifo}
use Rattle.priority_schedule.specs.State.{RealTime}
use Rattle.priority_schedule.specs.Unit.{registers_in, registers_of, unit_by_answer, unit_of, with_registers, activity_unit, outcome_at}

-- a state in which what is on has these registers
abbrev pub state_over : Option Who → Registers → RealTime → RealTime
state_over on r x = record x { threads = live_threads on r x.threads; registers = activity_registers on r }

given : (caller : Caller) (r s : Registers) (x : RealTime)
    → with_registers (who caller) s (state_over (Some (who caller)) r x) ≡ state_over (Some (who caller)) s x
given (Thread i) r s x = ap (λ (ts : List (Option HeldThread)). record x { threads = ts; registers = idle_registers }) (given_last x.threads i r s)
given (Init n) r s x = refl
given (Irq n) r s x = refl
given (Fifo n) r s x = refl

-- the registers that came last are those of what is on
pub given_on : (caller : Caller) (on : Option Who) (r s : Registers) (x : RealTime) → on ≡ Some (who caller)
    → with_registers (who caller) s (state_over on r x) ≡ state_over on s x
given_on caller on r s x e = rw e (given caller r s x)

own_slot : (base r : Registers) (slot : Option HeldThread) → option_map (λ (th : HeldThread). th.registers) slot ≡ Some r
    → registers_in base slot ≡ r
own_slot base r None e = absurd cc
own_slot base r (Some th) e = ap (λ (o : Option Registers). unwrap_or o base) e

own : (caller : Caller) (r : Registers) (x : RealTime) → OnLive (Some (who caller)) x.threads
    → registers_of (who caller) (state_over (Some (who caller)) r x) ≡ r
own (Thread i) r x live = own_slot idle_registers r (thread_at (with_thread i (given_registers r) x.threads) i) (given_own x.threads i r live)
own (Init n) r x live = refl
own (Irq n) r x live = refl
own (Fifo n) r x live = refl

pub own_on : (caller : Caller) (on : Option Who) (r : Registers) (x : RealTime) → on ≡ Some (who caller) → OnLive on x.threads
    → registers_of (who caller) (state_over on r x) ≡ r
own_on caller on r x e live = rw e (own caller r x (subst (λ o. OnLive o x.threads) e live))

-- the guest's registers are those that are kept
guest_of : (caller : Caller) (r kept : Registers) → guest_registers (Some (who caller)) r kept ≡ kept
guest_of (Thread i) r kept = refl
guest_of (Init n) r kept = refl
guest_of (Irq n) r kept = refl
guest_of (Fifo n) r kept = refl

pub guest_kept : (caller : Caller) (on : Option Who) (r kept : Registers) → on ≡ Some (who caller) → guest_registers on r kept ≡ kept
guest_kept caller on r kept e = ap (λ o. guest_registers o r kept) e ∙ guest_of caller r kept

-- a fault and a return neither read nor change them
pub fault_live : (on : Option Who) (r : Registers) (w : Who) (p : GateParts) → after_fault w (parts_live on r p) ≡ parts_live on r (after_fault w p)
fault_live None r w p = refl
fault_live (Some Guest) r w p = refl
fault_live (Some (ThreadOn i)) r w p = faults_kept w p i r
fault_live (Some (InitOn n)) r w p = refl
fault_live (Some (IrqOn n)) r w p = refl
fault_live (Some (FifoOn n)) r w p = refl

pub return_live : (on : Option Who) (r : Registers) (w : Who) (p : GateParts)
    → after_return w (parts_live on r p) ≡ parts_live on r (after_return w p)
return_live None r w p = refl
return_live (Some Guest) r w p = refl
return_live (Some (ThreadOn i)) r w p = returns_kept w p i r
return_live (Some (InitOn n)) r w p = refl
return_live (Some (IrqOn n)) r w p = refl
return_live (Some (FifoOn n)) r w p = refl

-- the unit of an activity, by what the processor's unit came to
unit_of_caller : (t : ℕ) (caller : Caller) (m : RealTime) → unit_of t None m (Some (who caller)) ≡ activity_unit t (who caller) m
unit_of_caller t (Thread i) m = refl
unit_of_caller t (Init n) m = refl
unit_of_caller t (Irq n) m = refl
unit_of_caller t (Fifo n) m = refl

by_outcome : (t : ℕ) (caller : Caller) (m : RealTime) → activity_unit t (who caller) m
    ≡ unit_by_answer t (who caller) (outcome_at (registers_of (who caller) m) m.side m.com2) m
    (outcome_at (registers_of (who caller) m) m.side m.com2).answer
unfolding activity_unit
by_outcome t caller m = refl

pub unit_is : (t : ℕ) (caller : Caller) (on : Option Who) (r : Registers) (x : RealTime) → on ≡ Some (who caller) → OnLive on x.threads
    → unit_of t None (state_over on r x) (Some (who caller))
    ≡ unit_by_answer t (who caller) (outcome_at r x.side x.com2) (state_over on r x) (outcome_at r x.side x.com2).answer
unit_is t caller on r x e live =
    unit_of_caller t caller (state_over on r x) ∙ by_outcome t caller (state_over on r x)
    ∙ ap (λ s. unit_by_answer t (who caller) (outcome_at s x.side x.com2) (state_over on r x) (outcome_at s x.side x.com2).answer)
    (own_on caller on r x e live)
