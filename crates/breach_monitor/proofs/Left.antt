-- What an access leaves of the board but for the serial port.
use Rattle.std.proofs.Common.{◌≡◌, ℕ, ◌+◌, ◌*◌, ◌<◌, Bool, true, false, refl, sym, ap, subst, ◌∙◌, inl, inr}
use Rattle.std.specs.Prelude.{Option, Some, None}
use Rattle.pit_8254.specs.Counter.{full_count, out_of}
use Rattle.pit_8254.specs.declared.counter.Mode.TheVariants.{TerminalCount}
use Rattle.port_map.specs.declared.com_port.ComPort.{ComPort}
use Rattle.port_map.specs.declared.com_port.ComPort.TheVariants.{Com1, Com2}
use Rattle.port_map.specs.ComPort.{interrupt_line}
use Rattle.port_map.specs.Serial.{Serial, rose}
use Rattle.port_board.specs.Board.{serial_of, with_serial, rises_at_once}
use Rattle.port_board.specs.OneShot.{OneShot}
use Rattle.port_board.specs.declared.board.Board.{Board}
use Rattle.breach_monitor.specs.Laws.{LeavesOthers, AccessLeavesOthers}

-- a board with the same timer and its level has the same one-shot
same_shot : (b after : Board) → after.pit ≡ b.pit → after.timer_high ≡ b.timer_high → (in_ticks : Option ℕ) → OneShot b in_ticks → OneShot after in_ticks
same_shot b after e h (Some m) r = record {
  count = r.count;
  mode = ap (λ t. t.counter0.mode) e ∙ r.mode;
  counts = ap (λ t. t.counter0.count) e ∙ r.counts;
  left = ap (λ t. t.counter0.pulses + 2 * m) e ∙ r.left;
  some = r.some;
}
same_shot b after e h None (inl r) = inl (record { counts = ap (λ t. t.counter0.count) e ∙ r.counts; low = ap (λ t. out_of t.counter0) e ∙ r.low })
same_shot b after e h None (inr r) = inr (record {
  count = r.count;
  mode = ap (λ t. t.counter0.mode) e ∙ r.mode;
  counts = ap (λ t. t.counter0.count) e ∙ r.counts;
  over = subst (λ t. full_count TerminalCount r.count < t.counter0.pulses) (sym e) r.over;
  high = h ∙ r.high;
})

left : (which : ComPort) (r : Bool) (s : Serial) (b : Board) → rose (serial_of which b) s ≡ r → LeavesOthers which s b (rises_at_once r (interrupt_line which) (with_serial which s b))
left Com1 true s b e = record { serial = refl; timer = refl; one_shot = same_shot b _ refl refl; pair = rw e refl; lines = rw e refl }
left Com1 false s b e = record { serial = refl; timer = refl; one_shot = same_shot b _ refl refl; pair = rw e refl; lines = rw e refl }
left Com2 true s b e = record { serial = refl; timer = refl; one_shot = same_shot b _ refl refl; pair = rw e refl; lines = rw e refl }
left Com2 false s b e = record { serial = refl; timer = refl; one_shot = same_shot b _ refl refl; pair = rw e refl; lines = rw e refl }

pub access_leaves_others : (which : ComPort) → AccessLeavesOthers which
access_leaves_others which s b = left which (rose (serial_of which b) s) s b refl
