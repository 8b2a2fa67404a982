-- The latched lines over a device step.
use Rattle.std.proofs.Common.{◌≡◌, ◌≢◌, ℕ, ◌-◌, ◌<◌, Bool, true, false, not, ◌&&◌, ◌||◌, List, [], ◌∷◌, sym, ◌∙◌, arith, inl, inr}
use Rattle.std.specs.Prelude.{nat_lt, ◌==◌, IsTrue}
use Rattle.std.specs.List.{list_all}
use Rattle.std.proofs.lemmas.Bool.{cases_Bool, and_parts}
use Rattle.std.proofs.lemmas.Bool.Decides.{nat_tests}
use Rattle.line_sets.specs.LineSet.{has, with_line}
use Rattle.line_sets.proofs.LineSetLemmas.{has-with, has-zero, has-with_other, with_line-lt}
use Rattle.pic_8259.specs.Controllers.{Controllers, IsPair, latch_of, risen}
use Rattle.pic_8259.proofs.Latches.{latch-risen}
use Rattle.pit_8254.specs.Counter.{out_of}
use Rattle.pit_8254.specs.Timer.{all_pulsed}
use Rattle.uart_16550.specs.SerialPort.{line_of}
use Rattle.device_script.specs.Event.{is_device_event}
use Rattle.device_script.specs.declared.event.Event.{Event}
use Rattle.device_script.specs.declared.event.Event.TheVariants.{Line, Com1, Com2}
use Rattle.port_board.specs.Board.{Rising, rises_if, com1_sampled, sampled, pulsed_once, coms_ticked, event_done, events_done, AreEvents, device_step}
use Rattle.port_board.specs.declared.board.Board.{Board}
use Rattle.port_board.proofs.Lines.{good_line}

-- the pair keeps its invariant over a rise
pub risen_pair : (n : ℕ) (p : Controllers) → n < 16 → n ≢ 2 → IsPair p → IsPair (risen n p)
risen_pair n p small ne k =
    elim (cases_Bool (n == 2)) [
      | inl same ↦ rw same k
      | inr other ↦ elim (cases_Bool (nat_lt n 8)) [
        | inl low ↦
            let below : n < 8 = grind (arith, nat_tests) in
            rw (other, low) (record {
              master_base = k.master_base;
              slave_base = k.slave_base;
              master_fits = with_line-lt 8 p.master.irr n k.master_fits below;
              slave_fits = k.slave_fits;
              no_cascade = has-with_other p.master.irr n 2 (λ e. ne (sym e)) ∙ k.no_cascade;
            })
        | inr high ↦
            let below : n - 8 < 8 = grind (arith, nat_tests) in
            rw (other, high) (record {
              master_base = k.master_base;
              slave_base = k.slave_base;
              master_fits = k.master_fits;
              slave_fits = with_line-lt 8 p.slave.irr (n - 8) k.slave_fits below;
              no_cascade = k.no_cascade;
            })
      ]
    ]

-- the lines that were latched at first, and those that rose since, are latched
pub record Holds (p : Controllers) (n : ℕ) (s : Rising) : Type 0 where
  pub pair : IsPair s.board.pair
  pub lines : has (latch_of s.board.pair) n ≡ (has (latch_of p) n || has s.lines n)

both : (k a b new old lines ok : Bool) → new ≡ (old || (k && ok)) → ok ≡ true → old ≡ (a || b) → lines ≡ (k || b) → new ≡ (a || lines)
both k a b new old lines ok e s f g = grind arith

not_two : (k : ℕ) → k ≢ 2 → not (k == 2) ≡ true
not_two k ne = grind (arith, nat_tests)

rise_holds : (p : Controllers) (rose : Bool) (k n : ℕ) (s : Rising) → k < 16 → k ≢ 2 → Holds p n s → Holds p n (rises_if rose k s)
rise_holds p true k n s small ne h = record {
  pair = risen_pair k s.board.pair small ne h.pair;
  lines = both (n == k) (has (latch_of p) n) (has s.lines n) (has (latch_of (risen k s.board.pair)) n) (has (latch_of s.board.pair) n) (has (with_line s.lines k) n) (not (k == 2))
      (latch-risen s.board.pair k n h.pair) (not_two k ne) h.lines (has-with s.lines k n);
}
rise_holds p false k n s small ne h = h

event_holds : (p : Controllers) (n : ℕ) (e : Event) (s : Rising) → IsTrue (is_device_event e) → Holds p n s → Holds p n (event_done e s)
event_holds p n (Line k) s is h = let good = good_line k is in rise_holds p true k n s good.1 good.2 h
event_holds p n (Com1 v) s is h = record { pair = h.pair; lines = h.lines }
event_holds p n (Com2 v) s is h = record { pair = h.pair; lines = h.lines }

events_hold : (p : Controllers) (n : ℕ) (events : List Event) (s : Rising) → AreEvents events → Holds p n s → Holds p n (events_done events s)
events_hold p n [] s are h = h
events_hold p n (e ∷ events) s are h =
    let parts = and_parts (is_device_event e) (list_all is_device_event events) are in
    events_hold p n events (event_done e s) parts.1 (event_holds p n e s parts.0 h)

once_holds : (p : Controllers) (n : ℕ) (s : Rising) → Holds p n s → Holds p n (pulsed_once s)
once_holds p n s h =
    let t = all_pulsed s.board.pit in
    rise_holds p (out_of t.counter0 && not s.board.timer_high) 0 n (record s { board = record s.board { pit = t; timer_high = out_of t.counter0 } }) (omega arith) (λ e. omega (arith, e))
    (record { pair = h.pair; lines = h.lines })

sampled_holds : (p : Controllers) (n : ℕ) (s : Rising) → Holds p n s → Holds p n (sampled s)
sampled_holds p n s h =
    let t = com1_sampled s in
    let k = rise_holds p (line_of s.board.com1 && not s.board.com1_high) 4 n (record s { board = record s.board { com1_high = line_of s.board.com1 } }) (omega arith) (λ e. omega (arith, e)) (record { pair = h.pair; lines = h.lines }) in
    rise_holds p (line_of t.board.com2 && not t.board.com2_high) 3 n (record t { board = record t.board { com2_high = line_of t.board.com2 } }) (omega arith) (λ e. omega (arith, e)) (record { pair = k.pair; lines = k.lines })

or_false : (a b : Bool) → b ≡ false → a ≡ (a || b)
or_false a b e = grind arith

whole_step : (b : Board) (events : List Event) (n : ℕ) → IsPair b.pair → AreEvents events → Holds b.pair n (device_step events b)
whole_step b events n is are =
    let s : Rising = record { board = b; lines = 0 } in
    let start : Holds b.pair n s = record { pair = is; lines = or_false (has (latch_of b.pair) n) (has 0 n) (has-zero n) } in
    let pulses = once_holds b.pair n (pulsed_once s) (once_holds b.pair n s start) in
    sampled_holds b.pair n (events_done events (coms_ticked (pulsed_once (pulsed_once s))))
    (events_hold b.pair n events (coms_ticked (pulsed_once (pulsed_once s))) are (record { pair = pulses.pair; lines = pulses.lines }))

pub step_holds : (b : Board) (events : List Event) (n : ℕ) → IsPair b.pair → AreEvents events
    → has (latch_of (device_step events b).board.pair) n ≡ (has (latch_of b.pair) n || has (device_step events b).lines n)
step_holds b events n is are = (whole_step b events n is are).lines

-- the pair keeps what is true of each pair
pub step_pair : (b : Board) (events : List Event) → IsPair b.pair → AreEvents events → IsPair (device_step events b).board.pair
step_pair b events is are = (whole_step b events 0 is are).pair
