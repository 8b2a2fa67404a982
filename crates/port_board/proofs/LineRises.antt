-- Which lines rise in a device step, one by one.
use Rattle.std.proofs.Common.{◌≡◌, ◌≢◌, ℕ, zero, suc, Bool, true, false, not, ◌&&◌, ◌||◌, ◌==◌, List, [], ◌∷◌, refl, sym, ap, ◌∙◌, arith}
use Rattle.std.specs.List.{list_all}
use Rattle.std.proofs.lemmas.Bool.{and_parts}
use Rattle.std.proofs.lemmas.Bool.Decides.{nat_tests}
use Rattle.line_sets.specs.LineSet.{has}
use Rattle.line_sets.proofs.LineSetLemmas.{has-zero, has-with}
use Rattle.pit_8254.specs.Counter.{out_of}
use Rattle.pit_8254.specs.Timer.{all_pulsed}
use Rattle.uart_16550.specs.SerialPort.{line_of}
use Rattle.device_script.specs.Event.{is_device_event}
use Rattle.device_script.specs.declared.event.Event.{Event}
use Rattle.device_script.specs.declared.event.Event.TheVariants.{Line, Com1 as ForCom1, Com2 as ForCom2}
use Rattle.port_map.specs.declared.com_port.ComPort.TheVariants.{Com1, Com2}
use Rattle.port_map.specs.Serial.{rose}
use Rattle.port_board.specs.Board.{Rising, rises_if, com1_sampled, com2_sampled, sampled, pulsed_once, coms_ticked, event_done, events_done, AreEvents, device_step, serial_of}
use Rattle.port_board.specs.OneShot.{rises_next}
use Rattle.port_board.specs.Left.{IsShot, ticks_left}
use Rattle.port_board.specs.Steps.{is_raised, line_rises}
use Rattle.port_board.specs.declared.board.Board.{Board}
use Rattle.port_board.proofs.Lines.{good_line}
use Rattle.port_board.proofs.ShotLeft.{counts_down}

joins : (x : Bool) (n k : ℕ) → ((n == k) || x) ≡ ((n == k && true) || x)
joins x n k = grind arith

rise_line : (b : Bool) (k n : ℕ) (s : Rising) → has (rises_if b k s).lines n ≡ ((n == k && b) || has s.lines n)
rise_line true k n s = has-with s.lines k n ∙ joins (has s.lines n) n k
rise_line false k n s = grind arith

-- the levels as they were before the step
pub record Levels (b : Board) (s : Rising) : Type 0 where
  pub com1 : s.board.com1_high ≡ b.com1_high
  pub com2 : s.board.com2_high ≡ b.com2_high

rise_levels : (b : Board) (r : Bool) (k : ℕ) (s : Rising) → Levels b s → Levels b (rises_if r k s)
rise_levels b true k s l = record { com1 = l.com1; com2 = l.com2 }
rise_levels b false k s l = l

once_levels : (b : Board) (s : Rising) → Levels b s → Levels b (pulsed_once s)
once_levels b s l =
    let t = all_pulsed s.board.pit in
    rise_levels b (out_of t.counter0 && not s.board.timer_high) 0 (record s { board = record s.board { pit = t; timer_high = out_of t.counter0 } }) (record { com1 = l.com1; com2 = l.com2 })

events_levels : (b : Board) (events : List Event) (s : Rising) → Levels b s → Levels b (events_done events s)
events_levels b [] s l = l
events_levels b (Line n ∷ events) s l = events_levels b events (event_done (Line n) s) (record { com1 = l.com1; com2 = l.com2 })
events_levels b (ForCom1 v ∷ events) s l = events_levels b events (event_done (ForCom1 v) s) (record { com1 = l.com1; com2 = l.com2 })
events_levels b (ForCom2 v ∷ events) s l = events_levels b events (event_done (ForCom2 v) s) (record { com1 = l.com1; com2 = l.com2 })

shuffle : (a b c : Bool) → ((a || b) || c) ≡ (b || (a || c))
shuffle true true c = refl
shuffle true false c = refl
shuffle false b c = refl

same_test : (n m : ℕ) → (n == m) ≡ (m == n)
same_test n m = grind (arith, nat_tests)

events_line : (n : ℕ) (events : List Event) (s : Rising) → has (events_done events s).lines n ≡ (has s.lines n || is_raised n events)
events_line n [] s = grind arith
events_line n (Line m ∷ events) s =
    events_line n events (event_done (Line m) s)
    ∙ ap (λ x. x || is_raised n events) (has-with s.lines m n)
    ∙ ap (λ x. (x || has s.lines n) || is_raised n events) (same_test n m)
    ∙ shuffle (m == n) (has s.lines n) (is_raised n events)
events_line n (ForCom1 v ∷ events) s = events_line n events (event_done (ForCom1 v) s)
events_line n (ForCom2 v ∷ events) s = events_line n events (event_done (ForCom2 v) s)

-- a script doesn't raise line 0
no_zero : (events : List Event) → AreEvents events → is_raised 0 events ≡ false
no_zero [] are = refl
no_zero (Line m ∷ events) are =
    let parts = and_parts (is_device_event (Line m)) (list_all is_device_event events) are in
    let some = (good_line m parts.0).0 in
    let other : (m == 0) ≡ false = grind (arith, nat_tests, some) in
    rw other (no_zero events parts.1)
no_zero (ForCom1 v ∷ events) are = no_zero events are
no_zero (ForCom2 v ∷ events) are = no_zero events are

-- the timer's pulses raise line 0 alone
once_line : (n : ℕ) (s : Rising) → n ≢ 0 → has (pulsed_once s).lines n ≡ has s.lines n
once_line n s ne =
    let t = all_pulsed s.board.pit in
    let other : (n == 0) ≡ false = grind (arith, nat_tests) in
    rise_line (out_of t.counter0 && not s.board.timer_high) 0 n (record s { board = record s.board { pit = t; timer_high = out_of t.counter0 } })
    ∙ ap (λ x. (x && (out_of t.counter0 && not s.board.timer_high)) || has s.lines n) other

com1_high : (s : Rising) → (com1_sampled s).board.com1_high ≡ line_of s.board.com1
com1_high s = elim (line_of s.board.com1 && not s.board.com1_high) as (λ b. (rises_if b 4 (record s { board = record s.board { com1_high = line_of s.board.com1 } })).board.com1_high ≡ line_of s.board.com1) [ true ↦ refl | false ↦ refl ]

com2_kept : (s : Rising) → ((com1_sampled s).board.com2_high ≡ s.board.com2_high)
com2_kept s = elim (line_of s.board.com1 && not s.board.com1_high) as (λ b. (rises_if b 4 (record s { board = record s.board { com1_high = line_of s.board.com1 } })).board.com2_high ≡ s.board.com2_high) [ true ↦ refl | false ↦ refl ]

com2_high : (s : Rising) → ((com2_sampled s).board.com2_high ≡ line_of s.board.com2) × ((com2_sampled s).board.com1_high ≡ s.board.com1_high)
com2_high s = elim (line_of s.board.com2 && not s.board.com2_high) as (λ b. ((rises_if b 3 (record s { board = record s.board { com2_high = line_of s.board.com2 } })).board.com2_high ≡ line_of s.board.com2) × ((rises_if b 3 (record s { board = record s.board { com2_high = line_of s.board.com2 } })).board.com1_high ≡ s.board.com1_high)) [ true ↦ (refl, refl) | false ↦ (refl, refl) ]

-- the sampling
sampled_line : (b : Board) (n : ℕ) (s : Rising) → Levels b s
    → has (sampled s).lines n ≡ ((n == 3 && rose (serial_of Com2 b) (serial_of Com2 (sampled s).board)) || ((n == 4 && rose (serial_of Com1 b) (serial_of Com1 (sampled s).board)) || has s.lines n))
sampled_line b n s l =
    let x = com1_sampled s in
    let h1 : (sampled s).board.com1_high ≡ line_of s.board.com1 = (com2_high x).1 ∙ com1_high s in
    let h2 : (sampled s).board.com2_high ≡ line_of x.board.com2 = (com2_high x).0 in
    let r1 : (line_of s.board.com1 && not s.board.com1_high) ≡ rose (serial_of Com1 b) (serial_of Com1 (sampled s).board) =
    ap (λ v. v && not s.board.com1_high) (sym h1) ∙ ap (λ v. (sampled s).board.com1_high && not v) l.com1 in
    let r2 : (line_of x.board.com2 && not x.board.com2_high) ≡ rose (serial_of Com2 b) (serial_of Com2 (sampled s).board) =
    ap (λ v. v && not x.board.com2_high) (sym h2) ∙ ap (λ v. (sampled s).board.com2_high && not v) (com2_kept s ∙ l.com2) in
    rise_line (line_of x.board.com2 && not x.board.com2_high) 3 n (record x { board = record x.board { com2_high = line_of x.board.com2 } })
    ∙ ap (λ v. (n == 3 && v) || has x.lines n) r2
    ∙ ap (λ v. (n == 3 && rose (serial_of Com2 b) (serial_of Com2 (sampled s).board)) || v)
    (rise_line (line_of s.board.com1 && not s.board.com1_high) 4 n (record s { board = record s.board { com1_high = line_of s.board.com1 } })
    ∙ ap (λ v. (n == 4 && v) || has s.lines n) r1)

abbrev Causes : Bool → Bool → Bool → Bool → ℕ → Bool
Causes timer com1 com2 script n = (n == 0 && timer) || ((n == 4 && com1) || ((n == 3 && com2) || script))

order_other : (a b c : Bool) (timer : Bool) (n : ℕ) → n ≢ 0 → (b || (a || c)) ≡ ((n == 0 && timer) || (a || (b || c)))
order_other true true c timer n ne = grind (arith, nat_tests)
order_other true false c timer n ne = grind (arith, nat_tests)
order_other false true c timer n ne = grind (arith, nat_tests)
order_other false false c timer n ne = let other : (n == 0) ≡ false = grind (arith, nat_tests) in rw other refl

other_line : (b : Board) (events : List Event) (n : ℕ) → n ≢ 0 → AreEvents events → has (device_step events b).lines n ≡ line_rises events b (device_step events b).board n
other_line b events n ne are =
    let s : Rising = record { board = b; lines = 0 } in
    let p = pulsed_once (pulsed_once s) in
    let c = coms_ticked p in
    let levels = once_levels b (pulsed_once s) (once_levels b s (record { com1 = refl; com2 = refl })) in
    let start : has c.lines n ≡ false = once_line n (pulsed_once s) ne ∙ once_line n s ne ∙ has-zero n in
    let e = events_done events c in
    let com1 = n == 4 && rose (serial_of Com1 b) (serial_of Com1 (device_step events b).board) in
    let com2 = n == 3 && rose (serial_of Com2 b) (serial_of Com2 (device_step events b).board) in
    sampled_line b n e (events_levels b events c (record { com1 = levels.com1; com2 = levels.com2 }))
    ∙ ap (λ v. com2 || (com1 || v)) (events_line n events c ∙ ap (λ v. v || is_raised n events) start)
    ∙ order_other com1 com2 (is_raised n events) (rises_next (ticks_left b)) n ne

zero_line : (timer com1 com2 script : Bool) → script ≡ false → timer ≡ Causes timer com1 com2 script 0
zero_line timer com1 com2 script e = grind arith

pub step_line : (b : Board) (events : List Event) → AreEvents events → IsShot b → (n : ℕ) → has (device_step events b).lines n ≡ line_rises events b (device_step events b).board n
step_line b events are shot zero =
    (counts_down b events are shot).line
    ∙ zero_line (rises_next (ticks_left b)) (rose (serial_of Com1 b) (serial_of Com1 (device_step events b).board)) (rose (serial_of Com2 b) (serial_of Com2 (device_step events b).board)) (is_raised 0 events) (no_zero events are)
step_line b events are shot (suc n) = other_line b events (suc n) (λ e. absurd (omega (arith, e))) are
