use Rattle.std.proofs.Common.{◌≡◌, ℕ, refl, Option, Some, None, option_map}
use Rattle.cpu_state.specs.declared.registers.Registers.{Registers}
use Rattle.line_kinds.specs.declared.kinds.Who.{Who}
use Rattle.line_kinds.specs.declared.kinds.Who.TheVariants.{Guest, Thread as ThreadOn, Init, Irq, Fifo as FifoOn}
use Rattle.gate_table.specs.declared.request.Request.{Request}
use Rattle.gate_table.specs.declared.names.GateName.{GateName}
use Rattle.gate_table.specs.Gates.{Answered, gate, GateParts}
use Rattle.activity_contexts.specs.Contexts.{OnLive}
use Rattle.activity_contexts.specs.Laws.{answer_live, parts_live}
use Rattle.activity_contexts.proofs.Rows.{faults_kept, gates_kept, returns_kept}
use Rattle.activity_contexts.proofs.gates_keep_contexts.Goals as goal

same : (o : Option Answered) → o ≡ option_map (λ a. a) o
same None = refl
same (Some a) = refl

live_gate : (t : ℕ) (who : Who) (q : Request) (p : GateParts) (name : GateName) (on : Option Who) (r : Registers) → OnLive on p.threads
    → gate t who q (parts_live on r p) name ≡ option_map (answer_live on r) (gate t who q p name)
live_gate t who q p name None r live = same (gate t who q p name)
live_gate t who q p name (Some Guest) r live = same (gate t who q p name)
live_gate t who q p name (Some (Init n)) r live = same (gate t who q p name)
live_gate t who q p name (Some (Irq line)) r live = same (gate t who q p name)
live_gate t who q p name (Some (FifoOn f)) r live = same (gate t who q p name)
live_gate t who q p name (Some (ThreadOn i)) r live = gates_kept t who q p name i r live

pub returns-clause-gates : goal.returns-clause-gates
returns-clause-gates c = gates_kept

pub returns-clause-live : goal.returns-clause-live
returns-clause-live c = live_gate

pub returns-clause-faults : goal.returns-clause-faults
returns-clause-faults c = faults_kept

pub returns-clause-returns : goal.returns-clause-returns
returns-clause-returns c = returns_kept
