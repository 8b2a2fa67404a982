use Rattle.std.proofs.Common.{rules}
use Rattle.soft_entry.proofs.entry.is_present_gate.Goals as goal

pub returns-then-kind-eq-INTERRUPT_GATE : goal.returns-then-kind-eq-INTERRUPT_GATE
returns-then-kind-eq-INTERRUPT_GATE c = search rules
