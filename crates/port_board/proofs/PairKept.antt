-- The pair over a device step: it stays as after the boot, but for what is latched.
use Rattle.std.proofs.Common.{ℕ, Bool, true, false, not, ◌&&◌, List, [], ◌∷◌}
use Rattle.pic_8259.specs.Boot.{IsBooted}
use Rattle.pic_8259.proofs.Latches.{booted-risen}
use Rattle.pit_8254.specs.Counter.{out_of}
use Rattle.pit_8254.specs.Timer.{all_pulsed}
use Rattle.uart_16550.specs.SerialPort.{line_of}
use Rattle.device_script.specs.declared.event.Event.{Event}
use Rattle.device_script.specs.declared.event.Event.TheVariants.{Line, Com1, Com2}
use Rattle.port_board.specs.Board.{Rising, rises_if, com1_sampled, sampled, pulsed_once, coms_ticked, event_done, events_done, device_step}
use Rattle.port_board.specs.declared.board.Board.{Board}

rise : (b : Bool) (n : ℕ) (s : Rising) → IsBooted s.board.pair → IsBooted (rises_if b n s).board.pair
rise true n s h = booted-risen s.board.pair n h
rise false n s h = h

once : (s : Rising) → IsBooted s.board.pair → IsBooted (pulsed_once s).board.pair
once s h =
    let t = all_pulsed s.board.pit in
    rise (out_of t.counter0 && not s.board.timer_high) 0 (record s { board = record s.board { pit = t; timer_high = out_of t.counter0 } }) h

all : (events : List Event) (s : Rising) → IsBooted s.board.pair → IsBooted (events_done events s).board.pair
all [] s h = h
all (Line n ∷ events) s h = all events (event_done (Line n) s) (rise true n s h)
all (Com1 v ∷ events) s h = all events (event_done (Com1 v) s) h
all (Com2 v ∷ events) s h = all events (event_done (Com2 v) s) h

samples : (s : Rising) → IsBooted s.board.pair → IsBooted (sampled s).board.pair
samples s h =
    let x = com1_sampled s in
    rise (line_of x.board.com2 && not x.board.com2_high) 3 (record x { board = record x.board { com2_high = line_of x.board.com2 } })
    (rise (line_of s.board.com1 && not s.board.com1_high) 4 (record s { board = record s.board { com1_high = line_of s.board.com1 } }) h)

pub booted_step : (b : Board) (events : List Event) → IsBooted b.pair → IsBooted (device_step events b).board.pair
booted_step b events h =
    let s : Rising = record { board = b; lines = 0 } in
    samples (events_done events (coms_ticked (pulsed_once (pulsed_once s)))) (all events (coms_ticked (pulsed_once (pulsed_once s))) (once (pulsed_once s) (once s h)))
