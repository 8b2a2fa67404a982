-- A unit of the processor over the board is one over COM2 alone.
use Rattle.std.proofs.Common.{◌≡◌, ℕ, List, true, false, length, refl, sym, ap, ◌∙◌, subst}
use Rattle.flat_memory.specs.Lent.{with_real_time}
use Rattle.flat_memory.specs.Parts.{Parts}
use Rattle.flat_memory.specs.Side.{side_at}
use Rattle.cpu_state.specs.Bus.{State}
use Rattle.cpu_state.specs.declared.registers.Registers.{Registers}
use Rattle.uart_16550.specs.SerialPort.{line_of}
use Rattle.port_map.specs.Serial.{Serial, rose}
use Rattle.port_map.specs.declared.com_port.ComPort.TheVariants.{Com2}
use Rattle.port_board.specs.Board.{accessed, rises_at_once, serial_of, with_serial}
use Rattle.port_board.specs.declared.board.Board.{Board}
use Rattle.breach_monitor.specs.Bus.{bus_state}
use Rattle.breach_monitor.specs.Laws.{IsRealTimeOfSerial, RealTimeKeepsOthers}
use Rattle.breach_monitor.specs.RealTimeUnit.{Outcome}
use Rattle.breach_monitor.specs.UnitOverBus.{IsRealTimeUnit, over}
use Rattle.breach_monitor.specs.declared.real_time.RealTimeUnit.{RealTimeUnit}
use Rattle.hardware_steps.specs.HardwareOf.{IsBoard}
use Rattle.hardware_steps.specs.Laws.{AccessKeepsBoard}
use Rattle.priority_schedule.specs.Unit.{outcome_at}
use Rattle.activity_step.specs.Performed.{Performs, outcome_over}
use Rattle.activity_step.proofs.Lent.{lent_bytes, lent_guest}

pub same_parts : (a b : Parts) → a.guest ≡ b.guest → a.real_time ≡ b.real_time → a ≡ b
same_parts a b e f = ap (λ g. let x : Parts = record { guest = g; real_time = a.real_time } in x) e
    ∙ ap (λ t. let x : Parts = record { guest = b.guest; real_time = t } in x) f

left_serial : (s : Serial) (b : Board) → serial_of Com2 (accessed Com2 s b) ≡ s
left_serial s b = elim (rose (serial_of Com2 b) s) as
    (λ r. serial_of Com2 (rises_at_once r 3 (with_serial Com2 s b)) ≡ s) [ true ↦ refl | false ↦ refl ]

pub performs : (memory written : Parts) (r s : Registers) (board left : Board) (came : RealTimeUnit) → IsRealTimeOfSerial Com2
    → RealTimeKeepsOthers Com2 → AccessKeepsBoard
    → IsRealTimeUnit came (over r (length memory.guest) memory.real_time board) (over s (length memory.guest) written.real_time left)
    → written.guest ≡ memory.guest → IsBoard board
    → Performs (outcome_over memory r board) came memory written r s board left
unfolding outcome_at
performs memory written r s board left came serial others keeps meets guest is =
    let st = bus_state (length memory.guest) memory.real_time board in
    let o = outcome_over memory r board in
    let seen = serial r st in
    let access : left ≡ accessed Com2 o.bus.devices board = ap (λ (x : State Board). x.devices) meets.state ∙ others r st in
    let level = subst (λ (x : Serial). x.high ≡ line_of x.port) (ap (serial_of Com2) access ∙ left_serial o.bus.devices board)
    (meets.sampled is.sampled).com2 in
    record {
      answer = meets.answer ∙ ap (λ (x : Outcome Serial). x.answer) seen;
      registers = meets.registers ∙ ap (λ (x : Outcome Serial). x.registers) seen;
      side = ap (λ g. side_at (length g) written.real_time) guest ∙ ap (λ (x : State Board). x.side) meets.state
          ∙ ap (λ (x : Outcome Serial). x.bus.side) seen;
      guest = guest;
      size = meets.size;
      access = access;
      sound = subst IsBoard (sym access) (keeps Com2 o.bus.devices board level is);
      unchanged = λ other. let same = meets.unchanged other in (same_parts written memory guest same.1, same.0, same.2);
    }

-- the same where the part is lent
pub performs_lent : (memory : Parts) (first : ℕ) (bytes w : List ℕ) (r s : Registers) (board left : Board) (came : RealTimeUnit)
    → IsRealTimeOfSerial Com2 → RealTimeKeepsOthers Com2
    → AccessKeepsBoard → first ≡ length memory.guest → bytes ≡ memory.real_time
    → IsRealTimeUnit came (over r first bytes board) (over s first w left) → IsBoard board
    → Performs (outcome_over memory r board) came memory (with_real_time memory w) r s board left
performs_lent memory first bytes w r s board left came serial others keeps at lent meets is =
    let size = meets.size ∙ ap length lent in
    let a = subst (λ n. IsRealTimeUnit came (over r n bytes board) (over s n w left)) at meets in
    let b = subst (λ bs. IsRealTimeUnit came (over r (length memory.guest) bs board) (over s (length memory.guest) w left)) lent a in
    let d = subst (λ bs. IsRealTimeUnit came (over r (length memory.guest) memory.real_time board) (over s (length memory.guest) bs left))
    (sym (lent_bytes memory w size)) b in
    performs memory (with_real_time memory w) r s board left came serial others keeps d (lent_guest memory w size) is
