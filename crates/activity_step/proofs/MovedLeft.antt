-- What a gate, a fault or a return leaves, by what it leaves of the executive and the controllers.
use Rattle.std.proofs.Common.{◌≡◌, ℕ, ◌+◌, Bool, List, ◌++◌, length, refl, sym, ap, ◌∙◌, Option, Some}
use Rattle.std.specs.Prelude.{option_map, if◌then◌else◌}
use Rattle.memory_model.specs.Side.{Side}
use Rattle.flat_memory.specs.Parts.{Parts}
use Rattle.cpu_state.specs.declared.registers.Registers.{Registers}
use Rattle.line_sets.specs.LineSet.{union, with_line}
use Rattle.line_kinds.specs.declared.kinds.RLine.{RLine}
use Rattle.pic_8259.specs.Controllers.{Controllers, latch_of}
use Rattle.port_map.specs.declared.com_port.ComPort.{ComPort}
use Rattle.port_map.specs.declared.com_port.ComPort.TheVariants.{Com1, Com2}
use Rattle.port_board.specs.Board.{rises_of, serial_of}
use Rattle.port_board.specs.declared.board.Board.{Board}
use Rattle.hard_dispatch.specs.Sets.{asked_lines}
use Rattle.irq_gates.specs.Owners.{taken_of}
use Rattle.executive.specs.declared.executive.Executive.{Executive}
use Rattle.run_lines.specs.Says.{pended}
use Rattle.priority_schedule.specs.Unit.{RealUnit}
use Rattle.trace_lines.specs.TickLines.{TickLines}
use Rattle.hardware_steps.specs.HardwareOf.{IsBoard}
use Rattle.hardware_steps.specs.Steps.{taken_acks}
use Rattle.hardware_steps.proofs.Shots.{same_left, same_shot}
use Rattle.hardware_steps.proofs.Stepped.{by_parts}
use Rattle.schedule_steps.specs.Dues.{has_come}
use Rattle.module_gates.specs.Callers.{who}
use Rattle.module_gates.specs.declared.caller.Caller.{Caller}
use Rattle.machine_state.specs.declared.processor.Processor.{Processor}
use Rattle.machine_state.specs.Parts.{MachineParts}
use Rattle.machine_state.specs.States.{bare_of, hardware_at, machines_of, real_of}
use Rattle.activity_step.specs.Leaves.{Leaves, machine_with}
use Rattle.activity_step.specs.Moved.{Moves}
use Rattle.activity_step.proofs.Asked.{where_due}
use Rattle.activity_step.proofs.NextLeft.{bare_parts}
use Rattle.activity_step.proofs.Registered.{guest_kept}
use Rattle.activity_step.proofs.UnitSteps.{same_changes, taken_step}

abbrev pub with_pair : Controllers → Board → Board
with_pair pair board = record board { pair = pair }

serials_stay : (pair : Controllers) (board : Board) (which : ComPort) → serial_of which (with_pair pair board) ≡ serial_of which board
serials_stay pair board Com1 = refl
serials_stay pair board Com2 = refl

pub moved_left : (caller : Caller) (u : RealUnit) (m : MachineParts) (memory written : Parts) (p : Processor) (r : Registers) (board : Board)
    (pair : Controllers)
    (all left : Executive) (pending marked : ℕ) (lines after : TickLines) (shown : List RLine) (taken : Option ℕ) (over : Bool)
    → p.on ≡ Some (who caller) → IsBoard board → rises_of board ≡ 0 → Moves all left board.pair pair taken
    → written.guest ≡ memory.guest → length written.real_time ≡ length memory.real_time
    → after ≡ record lines { r = lines.r ++ shown; h = lines.h ++ taken_acks taken } → over ≡ u.ended → u.lines ≡ shown
    → real_of (machine_with m written (record p { registers = r }) (with_pair pair board) left marked) ≡ u.after
    → asked_lines (latch_of pair) left.irqs marked ≡ union (asked_lines (latch_of board.pair) all.irqs pending) (pended shown)
    → Leaves u (machine_with m memory p board all pending)
    (machine_with m written (record p { registers = r }) (with_pair pair board) left marked) lines after over
moved_left caller u m memory written p r board pair all left pending marked lines after shown taken over on is none moves guest size e ended says
    real asks =
    let old = machine_with m memory p board all pending in
    let new = machine_with m written (record p { registers = r }) (with_pair pair board) left marked in
    record {
      ended = ended;
      real = real;
      lines = ap (λ (l : TickLines). l.r) e ∙ ap (λ xs. lines.r ++ xs) (sym says);
      bare = bare_parts (bare_of old) _ _ _ _
          (guest_kept caller p.on r p.kept on ∙ sym (guest_kept caller p.on p.registers p.kept on))
          (ap (λ bytes. let side : Side = record { first = 0; bytes = bytes } in side) guest) refl
          ∙ ap (λ due. record (bare_of old) {
            asked = if has_come m.ticks due then with_line
                (asked_lines (latch_of pair) left.irqs marked) 0 else asked_lines (latch_of pair) left.irqs marked;
          }) moves.guest
          ∙ ap (λ asked. record (bare_of old) { asked = asked })
          (where_due (has_come m.ticks all.timeline.guest) (asked_lines (latch_of board.pair) all.irqs pending)
          (asked_lines (latch_of pair) left.irqs marked) (pended shown) asks
          ∙ ap (λ ls. union (bare_of old).asked (pended ls)) (sym says));
      guest_lines = ap (λ (l : TickLines). l.g) e;
      hardware = taken_step board (with_pair pair board) (machines_of old) (machines_of new)
          (record { hardware = hardware_at old; lines = lines.h }) (record { hardware = hardware_at new; lines = after.h }) taken
          (record { com1 = refl; com2 = refl }) (record { com1 = refl; com2 = refl })
          (serials_stay pair board) (moves.took ∙ ap (taken_of (latch_of board.pair))
          (sym (same_changes (latch_of board.pair) (latch_of pair) all.irqs left.irqs)))
          (by_parts _ _ m.last _ _ _ _ moves.latches (ap (λ o. option_map (λ n. m.ticks + n) o) (same_left board (with_pair pair board) refl))
          (ap (λ (l : TickLines). l.h) e));
      guest = guest;
      size = size;
      board = record {
        booted = moves.booted;
        pair = moves.paired;
        shot = same_shot board (with_pair pair board) refl refl is.shot;
        sampled = record { com1 = is.sampled.com1; com2 = is.sampled.com2 };
      };
      taken = none;
      agrees = moves.agrees;
      irqs = moves.lines;
      due = moves.guest;
    }
