-- The timer is set by the nearest dues of both machines.
use Rattle.std.proofs.Common.{◌≡◌, ℕ, true, refl, sym, ap, subst, ◌∙◌, List, Option, Some, None, arith}
use Rattle.std.proofs.lemmas.Bool.Decides.{nat_tests}
use Rattle.line_kinds.specs.declared.kinds.HLine.{HLine}
use Rattle.port_board.specs.declared.board.Board.{Board}
use Rattle.rt_timeline.specs.Dues.{Dues, nearest_due}
use Rattle.hardware_lines.specs.Hardware.{Marking, next_due, same_due, timer_step}
use Rattle.hardware_steps.specs.HardwareOf.{marking_of}
use Rattle.hardware_steps.specs.Steps.{set_again}
use Rattle.machine_state.specs.Changed.{TellsDues}
use Rattle.machine_state.specs.declared.change.DueChange.{DueChange}
use Rattle.machine_state.specs.declared.change.DueChange.TheVariants.{Same, Was}
use Rattle.machine_state.specs.Parts.{MachineParts}
use Rattle.machine_state.specs.Running.{IsRunning}
use Rattle.machine_state.specs.States.{machines_of}
use Rattle.machine_state.proofs.Dues.{next_due_known}

same_itself : (o : Option ℕ) → same_due o o ≡ true
same_itself None = refl
same_itself (Some n) = grind (arith, nat_tests)

set_not : (now : ℕ) (o : Option ℕ) (s : Marking) → set_again now o o s ≡ s
set_not now o s = rw (same_itself o) refl

-- by the timelines of machines with the same last acknowledgement
by_timelines : (now : ℕ) (m n : MachineParts) (board : Board) (lines : List HLine) → m.last ≡ n.last → IsRunning m → IsRunning n
    → set_again now (nearest_due m.all.timeline) (nearest_due n.all.timeline) (marking_of now n.last board lines) ≡ timer_step now (machines_of m) (machines_of n) (marking_of now n.last board lines)
by_timelines now m n board lines same before after =
    let s = marking_of now n.last board lines in
    let known : next_due n.last (machines_of m) ≡ nearest_due m.all.timeline = subst (λ l. next_due l (machines_of m) ≡ nearest_due m.all.timeline) same (next_due_known m before) in
    sym (ap (λ o. set_again now o (nearest_due n.all.timeline) s) known) ∙ sym (ap (λ o. set_again now (next_due n.last (machines_of m)) o s) (next_due_known n after))

pub dues_same : (change : DueChange) (old new : Dues) → change ≡ Same → TellsDues change old new → new ≡ old
dues_same change old new is tells = subst (λ (c : DueChange). TellsDues c old new) is tells

pub due_was : (change : DueChange) (before : Option ℕ) (old new : Dues) → change ≡ Was before → TellsDues change old new → before ≡ nearest_due old
due_was change before old new is tells = subst (λ (c : DueChange). TellsDues c old new) is tells

pub timer_stays : (now : ℕ) (m n : MachineParts) (board : Board) (lines : List HLine) → m.last ≡ n.last → IsRunning m → IsRunning n → n.all.timeline ≡ m.all.timeline
    → marking_of now n.last board lines ≡ timer_step now (machines_of m) (machines_of n) (marking_of now n.last board lines)
timer_stays now m n board lines same before after dues =
    let s = marking_of now n.last board lines in
    sym (ap (λ (d : Dues). set_again now (nearest_due m.all.timeline) (nearest_due d) s) dues ∙ set_not now (nearest_due m.all.timeline) s)
    ∙ by_timelines now m n board lines same before after

pub timer_sets : (now : ℕ) (m n : MachineParts) (board : Board) (lines : List HLine) (near next : Option ℕ) (new : Marking) → m.last ≡ n.last → IsRunning m → IsRunning n
    → near ≡ nearest_due m.all.timeline → next ≡ nearest_due n.all.timeline → new ≡ set_again now near next (marking_of now n.last board lines)
    → new ≡ timer_step now (machines_of m) (machines_of n) (marking_of now n.last board lines)
timer_sets now m n board lines near next new same before after first second is =
    let s = marking_of now n.last board lines in
    is ∙ ap (λ o. set_again now o next s) first ∙ ap (λ o. set_again now (nearest_due m.all.timeline) o s) second ∙ by_timelines now m n board lines same before after
