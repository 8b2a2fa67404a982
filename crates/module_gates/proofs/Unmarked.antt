-- Where no line changes its owner and none is marked: no line is acknowledged, and the guest is asked for the same lines.
use Rattle.std.proofs.Common.{◌≡◌, ◌⊎◌, ℕ, ℤ, false, sym, ap, ◌∙◌, Option, None}
use Rattle.line_sets.specs.LineSet.{union}
use Rattle.rt_irqs.specs.Irqs.{Lines}
use Rattle.hard_dispatch.specs.Sets.{asked_lines}
use Rattle.gate_table.specs.declared.names.GateName.{GateName}
use Rattle.irq_gates.specs.Owners.{LeavesOwners, owner_changes, taken_of}
use Rattle.irq_gates.proofs.LineChanges.{leaves_owners}
use Rattle.module_gates.specs.Effects.{asked_after}
use Rattle.module_gates.specs.Families.{family_of}
use Rattle.module_gates.proofs.Names.{asks_none, is_lines, is_zero}

left : (before after : Lines) → after ≡ before → LeavesOwners before after
left before after same = leaves_owners before after (ap (λ (l : Lines). l.entries) (sym same))

pub untaken : (latch : ℕ) (before after : Lines) (line : Option ℕ) → line ≡ None → after ≡ before → line ≡ taken_of latch (owner_changes before after)
untaken latch before after line none same = none ∙ sym (ap (taken_of latch) (left before after same).owners)

pub asks_same : (latch pending marks : ℕ) (before after : Lines) → marks ≡ 0 → after ≡ before
    → asked_lines latch after (union pending marks) ≡ asked_lines latch before pending
asks_same latch pending marks before after none same = ap (λ m. asked_lines latch after (union pending m)) none ∙ (left before after same).asked latch pending

pub unasked : (name : GateName) (line : ℕ) (z : ℤ) (latch pending marks : ℕ) (before after : Lines)
    → (is_lines (family_of name) ≡ false) ⊎ (is_zero z ≡ false) → marks ≡ 0 → after ≡ before
    → asked_lines latch after (union pending marks) ≡ asked_after name line z (asked_lines latch before pending)
unasked name line z latch pending marks before after f none same =
    asks_same latch pending marks before after none same ∙ asks_none name line z (asked_lines latch before pending) f
