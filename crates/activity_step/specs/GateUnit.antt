-- What a gate leaves over the bytes of the real-time side.
use Rattle.std.specs.Prelude.{◌≡◌, ℕ}
use Rattle.line_sets.specs.LineSet.{union}
use Rattle.memory_model.specs.Side.{Side}
use Rattle.cpu_state.specs.Registers.{eax, ebx}
use Rattle.cpu_state.specs.declared.registers.Registers.{Registers}
use Rattle.pic_8259.specs.Controllers.{Controllers, latch_of}
use Rattle.hard_dispatch.specs.Sets.{asked_lines}
use Rattle.line_kinds.specs.declared.kinds.Who.{Who}
use Rattle.gate_table.specs.Gates.{gate, request_of}
use Rattle.gate_table.specs.Names.{gate_of}
use Rattle.executive.specs.declared.executive.Executive.{Executive}
use Rattle.executive.specs.Parts.{gate_parts}
use Rattle.module_gates.specs.Effects.{acknowledged_by, answered, asked_by, marked_by, registers_after, CountsPrinted, WhenOutside}
use Rattle.module_gates.specs.declared.effect.ModuleUnit.{ModuleUnit}
use Rattle.activity_step.specs.Moved.{Moves}

-- in tick `now` it came to this, by the table of gates
pub record Gated (now : ℕ) (who : Who) (came : ModuleUnit) (before after : Registers) (side written : Side) (old new : Executive)
    (pair left : Controllers) : Type 0 where
  pub outcome : gate now who (request_of before) (gate_parts (latch_of pair) side old) (gate_of (eax before))
      ≡ answered (gate_of (eax before)) came (gate_parts (latch_of left) written new)
  pub outside : WhenOutside came ((new ≡ old) × (written ≡ side) × (left ≡ pair))
  pub registers : after ≡ registers_after came before
  pub said : CountsPrinted (gate_of (eax before)) came
  pub asked : (pending : ℕ) → asked_lines (latch_of left) new.irqs (union pending (marked_by came))
      ≡ asked_by (gate_of (eax before)) (ebx before) came (asked_lines (latch_of pair) old.irqs pending)
  pub moves : Moves old new pair left (acknowledged_by came)
