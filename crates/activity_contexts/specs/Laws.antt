-- A gate neither reads nor changes the registers of a thread that was there before it.
use Rattle.std.specs.Prelude.{◌≡◌, ℕ, true, false, Option, Some, option_map}
use Rattle.cpu_state.specs.declared.registers.Registers.{Registers}
use Rattle.line_kinds.specs.declared.kinds.Who.{Who}
use Rattle.rt_threads.specs.declared.threads.Thread.{Thread}
use Rattle.rt_threads.specs.Threads.{with_thread, given_registers, is_live, thread_at}
use Rattle.gate_table.specs.declared.names.GateName.{GateName}
use Rattle.gate_table.specs.declared.request.Request.{Request}
use Rattle.gate_table.specs.Gates.{GateParts, Answered, gate, after_fault, after_return}
use Rattle.activity_contexts.specs.Contexts.{live_threads, OnLive}

-- the parts with other registers of one thread
abbrev pub overlaid : ℕ → Registers → GateParts → GateParts
overlaid i registers p = record p { threads = with_thread i (given_registers registers) p.threads }

abbrev pub answer_overlaid : ℕ → Registers → Answered → Answered
answer_overlaid i registers a = record a { after = overlaid i registers a.after }

-- for a live thread, whichever activity calls whichever gate. That goes for the gate that deletes the thread too: behind it there is no
-- such thread on either side. A thread that isn't live could be the one that a gate creates
abbrev pub GatesKeepContexts : Type 0
GatesKeepContexts =
    (t : ℕ) (who : Who) (q : Request) (p : GateParts) (name : GateName) (i : ℕ) (r : Registers) → is_live p.threads i ≡ true
    → gate t who q (overlaid i r p) name ≡ option_map (answer_overlaid i r) (gate t who q p name)

-- a fault and a return, for every thread
abbrev pub FaultsKeepContexts : Type 0
FaultsKeepContexts = (who : Who) (p : GateParts) (i : ℕ) (r : Registers) → after_fault who (overlaid i r p) ≡ overlaid i r (after_fault who p)

abbrev pub ReturnsKeepContexts : Type 0
ReturnsKeepContexts = (who : Who) (p : GateParts) (i : ℕ) (r : Registers) → after_return who (overlaid i r p) ≡ overlaid i r (after_return who p)

-- a thread that isn't live has no registers to change
abbrev pub NoneOverlaid : Type 0
NoneOverlaid = (p : GateParts) (i : ℕ) (r : Registers) → is_live p.threads i ≡ false → overlaid i r p ≡ p

-- the registers that came last are the thread's
abbrev pub LastOverlaid : Type 0
LastOverlaid = (p : GateParts) (i : ℕ) (r s : Registers) → overlaid i s (overlaid i r p) ≡ overlaid i s p

abbrev pub registers_in : Option Thread → Option Registers
registers_in slot = option_map (λ (thread : Thread). thread.registers) slot

abbrev pub HasOverlaid : Type 0
HasOverlaid = (p : GateParts) (i : ℕ) (r : Registers) → is_live p.threads i ≡ true → registers_in (thread_at (overlaid i r p).threads i) ≡ Some r

-- the same of what is on: the parts with its registers in the processor
abbrev pub parts_live : Option Who → Registers → GateParts → GateParts
parts_live on registers p = record p { threads = live_threads on registers p.threads }

abbrev pub answer_live : Option Who → Registers → Answered → Answered
answer_live on registers a = record a { after = parts_live on registers a.after }

abbrev pub LiveGates : Type 0
LiveGates =
    (t : ℕ) (who : Who) (q : Request) (p : GateParts) (name : GateName) (on : Option Who) (r : Registers) → OnLive on p.threads
    → gate t who q (parts_live on r p) name ≡ option_map (answer_live on r) (gate t who q p name)
