-- What a tick's calls come to together.
use Rattle.std.proofs.Common.{◌≡◌, ℕ, ◌||◌, List, refl, sym, ap, subst, ◌∙◌}
use Rattle.line_sets.specs.LineSet.{has}
use Rattle.pic_8259.specs.Controllers.{IsPair, latch_of}
use Rattle.pic_8259.specs.Boot.{IsBooted}
use Rattle.pit_8254.specs.Timer.{all_pulsed}
use Rattle.uart_16550.specs.SerialPort.{SerialPort, ticked}
use Rattle.device_script.specs.declared.event.Event.{Event}
use Rattle.port_map.specs.declared.com_port.ComPort.{ComPort}
use Rattle.port_board.specs.Board.{Rising, IsSampled, AreEvents, device_step, sampled, pulsed_once, coms_ticked, events_done, serial_of, rises_of}
use Rattle.port_board.specs.OneShot.{one_less}
use Rattle.port_board.specs.Left.{ticks_left, IsShot}
use Rattle.port_board.specs.Steps.{line_rises, serial_stepped}
use Rattle.port_board.specs.declared.board.Board.{Board}
use Rattle.port_board.proofs.Sampled.{sampled_samples}
use Rattle.port_board.proofs.ShotLeft.{counts_down}
use Rattle.port_board.proofs.DeviceSteps.{steps_devices}

-- the clauses of a tick that are about the board after it and the lines that rose
pub record Ticked (events : List Event) (b new : Board) (lines : ℕ) : Type 0 where
  pub step : (let s : Rising = record { board = new; lines = lines } in s) ≡ device_step events b
  pub sampled : IsSampled new
  pub booted : IsBooted b.pair → IsBooted new.pair
  pub pair : IsPair b.pair → IsPair new.pair
  pub latched : IsPair b.pair → (n : ℕ) → has (latch_of new.pair) n ≡ (has (latch_of b.pair) n || has lines n)
  pub rising : IsShot b → (n : ℕ) → has lines n ≡ line_rises events b new n
  pub left : IsShot b → ticks_left new ≡ one_less (ticks_left b)
  pub shot : IsShot b → IsShot new
  pub timer : new.pit ≡ all_pulsed (all_pulsed b.pit)
  pub serial : (which : ComPort) → serial_of which new ≡ serial_stepped which events (serial_of which b)
  pub rises : rises_of new ≡ rises_of b

by_definition : (events : List Event) (b : Board) → AreEvents events → Ticked events b (device_step events b).board (device_step events b).lines
by_definition events b are =
    let k = steps_devices b events are in
    record {
      step = refl;
      sampled = sampled_samples (events_done events (coms_ticked (pulsed_once (pulsed_once (record { board = b; lines = 0 })))));
      booted = k.booted;
      pair = k.pair;
      latched = k.latched;
      rising = k.rising;
      left = λ shot. (counts_down b events are shot).left;
      shot = λ shot. (counts_down b events are shot).shot;
      timer = k.timer;
      serial = k.serial;
      rises = k.rises;
    }

-- the serial ports of a board after their ticks
ticked_coms : (b : Board) (lines : ℕ) (p q : SerialPort) → p ≡ ticked b.com1 → q ≡ ticked b.com2
    → (let s : Rising = record { board = record b { com1 = p; com2 = q }; lines = lines } in s) ≡ coms_ticked (record { board = b; lines = lines })
ticked_coms b lines p q e f = cc

-- two pulses, the ticks of the serial ports, the events, and the sampling
pub tick_steps : (events : List Event) (b b1 b2 b3 new : Board) (p q : SerialPort) (l1 l2 l3 lines : ℕ) → AreEvents events
    → (let s : Rising = record { board = b1; lines = l1 } in s) ≡ pulsed_once (record { board = b; lines = 0 })
    → (let s : Rising = record { board = b2; lines = l2 } in s) ≡ pulsed_once (record { board = b1; lines = l1 })
    → p ≡ ticked b2.com1 → q ≡ ticked b2.com2
    → (let s : Rising = record { board = b3; lines = l3 } in s) ≡ events_done events (record { board = record b2 { com1 = p; com2 = q }; lines = l2 })
    → (let s : Rising = record { board = new; lines = lines } in s) ≡ sampled (record { board = b3; lines = l3 })
    → Ticked events b new lines
tick_steps events b b1 b2 b3 new p q l1 l2 l3 lines are first second com1 com2 third last =
    let two = second ∙ ap pulsed_once first in
    let coms = ticked_coms b2 l2 p q com1 com2 ∙ ap coms_ticked two in
    let whole = last ∙ ap sampled (third ∙ ap (events_done events) coms) in
    subst (λ (s : Rising). Ticked events b s.board s.lines) (sym whole) (by_definition events b are)
