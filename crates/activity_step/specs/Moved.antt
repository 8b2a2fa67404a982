-- What a gate, a fault or a return leaves of the executive's parts and the controllers.
use Rattle.std.specs.Prelude.{◌≡◌, ◌++◌, ◌∷◌, [], ℕ, Option}
use Rattle.memory_model.specs.Side.{Side}
use Rattle.pic_8259.specs.Boot.{IsBooted}
use Rattle.pic_8259.specs.Controllers.{Controllers, IsPair, latch_of}
use Rattle.rt_irqs.specs.Irqs.{IsLines}
use Rattle.hard_dispatch.specs.Sets.{asked_lines}
use Rattle.gate_table.specs.Gates.{GateParts}
use Rattle.executive.specs.declared.executive.Executive.{Executive}
use Rattle.executive.specs.Agreement.{Agrees}
use Rattle.executive.specs.Parts.{gate_parts}
use Rattle.line_kinds.specs.declared.kinds.RLine.{RLine}
use Rattle.trace_lines.specs.TickLines.{TickLines}
use Rattle.hardware_steps.specs.Steps.{taken_acks}
use Rattle.irq_gates.specs.Owners.{owner_changes, taken_of, without_taken}

-- a line whose owner changed, and that stood, is taken out of the controllers; and the parts are sound
pub record Moves (old new : Executive) (pair left : Controllers) (taken : Option ℕ) : Type 0 where
  pub took : taken ≡ taken_of (latch_of pair) (owner_changes old.irqs new.irqs)
  pub latches : latch_of left ≡ without_taken taken (latch_of pair)
  pub booted : IsBooted left
  pub paired : IsPair left
  pub agrees : Agrees new
  pub lines : IsLines new.irqs
  pub guest : new.timeline.guest ≡ old.timeline.guest
  pub version : new.ready.version ≡ old.ready.version

-- the end of an activity, which leaves this of the parts that gates use, and asks the guest for no more
pub record Ends (after : GateParts → GateParts) (old new : Executive) (pair left : Controllers) (taken : Option ℕ) : Type 0 where
  pub parts : (side : Side) → after (gate_parts (latch_of pair) side old) ≡ gate_parts (latch_of left) side new
  pub asked : (pending : ℕ) → asked_lines (latch_of left) new.irqs pending ≡ asked_lines (latch_of pair) old.irqs pending
  pub moves : Moves old new pair left taken

-- the same with its line, and the `ack` line of the line that was taken
pub record EndsWith (after : GateParts → GateParts) (shown : RLine) (old new : Executive) (pair left : Controllers)
    (before printed : TickLines) : Type 0 where
  pub taken : Option ℕ
  pub ends : Ends after old new pair left taken
  pub lines : printed ≡ record before { r = before.r ++ shown ∷ []; h = before.h ++ taken_acks taken }
