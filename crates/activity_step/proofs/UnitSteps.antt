-- The hardware's unit, where nothing but COM2 rises or where a line changes its owner.
use Rattle.std.proofs.Common.{◌≡◌, ℕ, filter, refl, sym, ap, ◌∙◌, Option, None, append-nil}
use Rattle.port_map.specs.declared.com_port.ComPort.{ComPort}
use Rattle.port_board.specs.Board.{serial_of}
use Rattle.port_board.specs.declared.board.Board.{Board}
use Rattle.rt_irqs.specs.Irqs.{Lines, handler_order}
use Rattle.hard_dispatch.specs.Sets.{marked_lines}
use Rattle.irq_gates.specs.Owners.{owner_changes, taken_of}
use Rattle.irq_gates.proofs.LineChanges.{leaves_owners}
use Rattle.hardware_lines.specs.Hardware.{Machines, Marking, changes_owner, unit_step, with_edges}
use Rattle.hardware_steps.specs.Laws.{HasSerials}
use Rattle.hardware_steps.specs.Steps.{serials_rose, with_taken}
use Rattle.hardware_steps.proofs.Accesses.{none_rises}
use Rattle.hardware_steps.proofs.ByDefinition.{unit_step_is}

none_taken : (s : Marking) → s ≡ with_taken None s
none_taken s = ap (λ hs. record s { lines = hs }) (sym (append-nil s.lines))

owners : (m n : Machines) → filter (changes_owner m n) handler_order ≡ owner_changes m.real.irqs n.real.irqs
unfolding owner_changes
owners m n = refl

-- the marks of latched lines don't count
pub same_changes : (latch left : ℕ) (before after : Lines)
    → owner_changes (marked_lines latch before) (marked_lines left after) ≡ owner_changes before after
unfolding owner_changes
same_changes latch left before after = refl

pub edges_step : (b after : Board) (m n : Machines) (s e : Marking) → HasSerials m b → HasSerials n after
    → e ≡ with_edges (serials_rose b after 0) s → m.real.irqs.entries ≡ n.real.irqs.entries → e ≡ unit_step m n s
edges_step b after m n s e t u edges same =
    edges ∙ none_taken (with_edges (serials_rose b after 0) s)
    ∙ ap (λ lines. let x = with_edges (serials_rose b after 0) s in with_taken (taken_of x.hardware.latch lines) x)
    (sym (owners m n ∙ (leaves_owners m.real.irqs n.real.irqs same).owners))
    ∙ unit_step_is b after m n s t u

pub taken_step : (b after : Board) (m n : Machines) (s e : Marking) (taken : Option ℕ) → HasSerials m b → HasSerials n after
    → ((which : ComPort) → serial_of which after ≡ serial_of which b)
    → taken ≡ taken_of s.hardware.latch (owner_changes m.real.irqs n.real.irqs) → e ≡ with_taken taken s → e ≡ unit_step m n s
taken_step b after m n s e taken t u serials is h =
    h ∙ ap (λ x. with_taken x s) (is ∙ ap (taken_of s.hardware.latch) (sym (owners m n)))
    ∙ ap (λ x. with_taken (taken_of x.hardware.latch (filter (changes_owner m n) handler_order)) x) (sym (none_rises b after s serials))
    ∙ unit_step_is b after m n s t u
