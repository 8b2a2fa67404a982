-- The one-shot over a device step.
use Rattle.std.proofs.Common.{◌≡◌, ℕ, ◌+◌, ◌-◌, ◌*◌, ◌<◌, ◌≤◌, inl, inr, Bool, true, false, not, ◌&&◌, suc, Option, Some, None, List, [], ◌∷◌, refl, ap, sym, ◌∙◌, subst, arith, if◌then◌else◌}
use Rattle.std.specs.Prelude.{nat_lt, IsTrue}
use Rattle.std.specs.List.{list_all}
use Rattle.std.proofs.lemmas.Bool.{and_parts}
use Rattle.device_script.specs.Event.{is_device_event}
use Rattle.port_board.proofs.Lines.{good_line}
use Rattle.std.proofs.lemmas.Bool.Decides.{nat_tests}
use Rattle.line_sets.specs.LineSet.{has}
use Rattle.line_sets.proofs.LineSetLemmas.{has-with_other, has-with_same, has-zero}
use Rattle.pit_8254.specs.Counter.{full_count, out_of, pulsed}
use Rattle.pit_8254.specs.Timer.{all_pulsed}
use Rattle.pit_8254.specs.declared.counter.Counter.{Counter}
use Rattle.pit_8254.specs.declared.counter.Mode.{Mode}
use Rattle.pit_8254.specs.declared.counter.Mode.TheVariants.{TerminalCount}
use Rattle.uart_16550.specs.SerialPort.{line_of}
use Rattle.port_board.specs.Board.{Rising, rises_if, com1_sampled, com2_sampled, sampled, pulsed_once, coms_ticked, event_done, events_done, AreEvents, device_step}
use Rattle.port_board.specs.OneShot.{RisesIn, HasRisen, IsIdle, OneShot, one_less, rises_next}
use Rattle.port_board.specs.declared.board.Board.{Board}
use Rattle.device_script.specs.declared.event.Event.{Event}
use Rattle.device_script.specs.declared.event.Event.TheVariants.{Line, Com1, Com2}

-- two steps that agree on the timer and on line 0
pub record SameTimer (s t : Rising) : Type 0 where
  pub pit : t.board.pit ≡ s.board.pit
  pub high : t.board.timer_high ≡ s.board.timer_high
  pub line : has t.lines 0 ≡ has s.lines 0

-- a rise of another line
rise_keeps : (rose : Bool) (n : ℕ) (s : Rising) → 1 ≤ n → SameTimer s (rises_if rose n s)
rise_keeps true n s some = record { pit = refl; high = refl; line = has-with_other s.lines n 0 (λ e. omega (arith, some, e)) }
rise_keeps false n s some = record { pit = refl; high = refl; line = refl }

follow : (s t u : Rising) → SameTimer s t → SameTimer t u → SameTimer s u
follow s t u a b = record { pit = b.pit ∙ a.pit; high = b.high ∙ a.high; line = b.line ∙ a.line }

com1_keeps : (s : Rising) → SameTimer s (com1_sampled s)
com1_keeps s =
    let k = rise_keeps (line_of s.board.com1 && not s.board.com1_high) 4 (record s { board = record s.board { com1_high = line_of s.board.com1 } }) (omega arith) in
    record { pit = k.pit; high = k.high; line = k.line }

com2_keeps : (s : Rising) → SameTimer s (com2_sampled s)
com2_keeps s =
    let k = rise_keeps (line_of s.board.com2 && not s.board.com2_high) 3 (record s { board = record s.board { com2_high = line_of s.board.com2 } }) (omega arith) in
    record { pit = k.pit; high = k.high; line = k.line }

event_keeps : (e : Event) (s : Rising) → IsTrue (is_device_event e) → SameTimer s (event_done e s)
event_keeps (Line n) s is = rise_keeps true n s (good_line n is).0
event_keeps (Com1 v) s is = record { pit = refl; high = refl; line = refl }
event_keeps (Com2 v) s is = record { pit = refl; high = refl; line = refl }

events_keep : (events : List Event) (s : Rising) → AreEvents events → SameTimer s (events_done events s)
events_keep [] s are = record { pit = refl; high = refl; line = refl }
events_keep (e ∷ events) s are =
    let parts = and_parts (is_device_event e) (list_all is_device_event events) are in
    follow s (event_done e s) (events_done events (event_done e s)) (event_keeps e s parts.0) (events_keep events (event_done e s) parts.1)

rest_keeps : (events : List Event) (s : Rising) → AreEvents events → SameTimer s (sampled (events_done events (coms_ticked s)))
rest_keeps events s are =
    let a = events_done events (coms_ticked s) in
    let k = follow (coms_ticked s) a (sampled a) (events_keep events (coms_ticked s) are) (follow a (com1_sampled a) (sampled a) (com1_keeps a) (com2_keeps (com1_sampled a))) in
    record { pit = k.pit; high = k.high; line = k.line }

-- the timer's part of a step: its counter 0, the level and the line
pub record Shot : Type 0 where
  pub counter : Counter
  pub high : Bool
  pub line : Bool

pub shot_of : Rising → Shot
shot_of s = record { counter = s.board.pit.counter0; high = s.board.timer_high; line = has s.lines 0 }

abbrev pub shot_pulsed : Shot → Shot
shot_pulsed x = record { counter = pulsed x.counter; high = out_of (pulsed x.counter); line = if out_of (pulsed x.counter) && not x.high then true else x.line }

shot_rise : (rose : Bool) (s : Rising) → shot_of (rises_if rose 0 s) ≡ record (shot_of s) { line = if rose then true else has s.lines 0 }
unfolding shot_of
shot_rise true s = ap (λ x. record { counter = s.board.pit.counter0; high = s.board.timer_high; line = x }) (has-with_same s.lines 0)
shot_rise false s = refl

pub shot_once : (s : Rising) → shot_of (pulsed_once s) ≡ shot_pulsed (shot_of s)
unfolding shot_of
shot_once s =
    let t = all_pulsed s.board.pit in
    shot_rise (out_of t.counter0 && not s.board.timer_high) (record s { board = record s.board { pit = t; timer_high = out_of t.counter0 } })

shot_same : (s t : Rising) → SameTimer s t → shot_of t ≡ shot_of s
unfolding shot_of
shot_same s t k =
    let a = k.pit in
    let b = k.high in
    let c = k.line in
    cc

pub shot_stepped : (events : List Event) (b : Board) → AreEvents events
    → shot_of (device_step events b) ≡ shot_pulsed (shot_pulsed (record { counter = b.pit.counter0; high = b.timer_high; line = has 0 0 }))
unfolding shot_of
shot_stepped events b are =
    let s : Rising = record { board = b; lines = 0 } in
    shot_same (pulsed_once (pulsed_once s)) (device_step events b) (rest_keeps events (pulsed_once (pulsed_once s)) are)
    ∙ shot_once (pulsed_once s) ∙ ap shot_pulsed (shot_once s)

-- a counter that counts in mode 0
abbrev pub counting : ℕ → ℕ → Counter → Counter
counting c q k = record k { mode = TerminalCount; count = Some c; pulses = q }

abbrev pub shot : ℕ → ℕ → Counter → Bool → Bool → Shot
shot c q k high line = record { counter = counting c q k; high = high; line = line }

pub pulse_low : (c q : ℕ) (k : Counter) (high line : Bool) → q + 1 ≤ full_count TerminalCount c → shot_pulsed (shot c q k high line) ≡ shot c (q + 1) k false line
pulse_low c q k high line h = grind (arith, nat_tests)

pub pulse_last : (c q : ℕ) (k : Counter) (line : Bool) → q ≡ full_count TerminalCount c → shot_pulsed (shot c q k false line) ≡ shot c (q + 1) k true true
pulse_last c q k line h = grind (arith, nat_tests)

abbrev pub over : ℕ → ℕ → ℕ
over n q = if nat_lt q (n + 65536) then q + 1 else q + 1 - 65536

pub pulse_over : (c q : ℕ) (k : Counter) (line : Bool) → full_count TerminalCount c < q → shot_pulsed (shot c q k true line) ≡ shot c (over (full_count TerminalCount c) q) k true line
pulse_over c q k line h = grind (arith, nat_tests)

pub still_over : (n q : ℕ) → n < q → n < over n q
still_over n q h = grind (arith, nat_tests)

-- a counter of a mode and a count, by its parts
parts : (k : Counter) (mode : Mode) (count : Option ℕ) (pulses c q : ℕ) → mode ≡ TerminalCount → count ≡ Some c → pulses ≡ q
    → let x : Counter = record k { mode = mode; count = count; pulses = pulses } in x ≡ counting c q k
parts k mode count pulses c q e f g = cc

by_parts : (k : Counter) (c q : ℕ) → k.mode ≡ TerminalCount → k.count ≡ Some c → k.pulses ≡ q → k ≡ counting c q k
by_parts k c q e f g = parts k k.mode k.count k.pulses c q e f g

-- the timer's part of a step, for a counter by its parts
stepped : (events : List Event) (b : Board) (c q : ℕ) → AreEvents events → b.pit.counter0.mode ≡ TerminalCount → b.pit.counter0.count ≡ Some c → b.pit.counter0.pulses ≡ q
    → shot_of (device_step events b) ≡ shot_pulsed (shot_pulsed (shot c q b.pit.counter0 b.timer_high (has 0 0)))
stepped events b c q are e f g =
    shot_stepped events b are
    ∙ ap (λ (k : Counter). shot_pulsed (shot_pulsed (record { counter = k; high = b.timer_high; line = has 0 0 }))) (by_parts b.pit.counter0 c q e f g)

-- what a known shot says of the board
rises_in : (s : Rising) (c q m : ℕ) (k : Counter) (high line : Bool) → shot_of s ≡ shot c q k high line → q + 2 * m ≡ full_count TerminalCount c + 1 → 1 ≤ m → RisesIn s.board m
unfolding shot_of
rises_in s c q m k high line e l some = record {
  count = c;
  mode = ap (λ (x : Shot). x.counter.mode) e;
  counts = ap (λ (x : Shot). x.counter.count) e;
  left = ap (λ (x : Shot). x.counter.pulses + 2 * m) e ∙ l;
  some = some;
}

has_risen : (s : Rising) (c q : ℕ) (k : Counter) (line : Bool) → shot_of s ≡ shot c q k true line → full_count TerminalCount c < q → HasRisen s.board
unfolding shot_of
has_risen s c q k line e l = record {
  count = c;
  mode = ap (λ (x : Shot). x.counter.mode) e;
  counts = ap (λ (x : Shot). x.counter.count) e;
  over = subst (λ x. full_count TerminalCount c < x) (sym (ap (λ (x : Shot). x.counter.pulses) e)) l;
  high = ap (λ (x : Shot). x.high) e;
}

line_of_shot : (s : Rising) (x : Shot) → shot_of s ≡ x → has s.lines 0 ≡ x.line
unfolding shot_of
line_of_shot s x e = ap (λ (y : Shot). y.line) e

abbrev pub Ticks : Board → List Event → Option ℕ → Type 0
Ticks b events o = (has (device_step events b).lines 0 ≡ rises_next o) × OneShot (device_step events b).board (one_less o)

pub ticks_last : (b : Board) (events : List Event) → AreEvents events → RisesIn b 1 → Ticks b events (Some 1)
ticks_last b events are r =
    let q = b.pit.counter0.pulses in
    let e = stepped events b r.count q are r.mode r.counts refl
    ∙ ap shot_pulsed (pulse_low r.count q b.pit.counter0 b.timer_high (has 0 0) (omega (arith, r.left)))
    ∙ pulse_last r.count (q + 1) b.pit.counter0 (has 0 0) (omega (arith, r.left)) in
    (line_of_shot (device_step events b) _ e, inr (has_risen (device_step events b) r.count (q + 1 + 1) b.pit.counter0 true e (omega (arith, r.left))))

pub ticks_on : (b : Board) (events : List Event) (m : ℕ) → AreEvents events → RisesIn b (suc (suc m)) → Ticks b events (Some (suc (suc m)))
ticks_on b events m are r =
    let q = b.pit.counter0.pulses in
    let e = stepped events b r.count q are r.mode r.counts refl
    ∙ ap shot_pulsed (pulse_low r.count q b.pit.counter0 b.timer_high (has 0 0) (omega (arith, r.left)))
    ∙ pulse_low r.count (q + 1) b.pit.counter0 false (has 0 0) (omega (arith, r.left)) in
    (line_of_shot (device_step events b) _ e ∙ has-zero 0, rises_in (device_step events b) r.count (q + 1 + 1) (suc m) b.pit.counter0 false (has 0 0) e (omega (arith, r.left)) (omega arith))

pub ticks_risen : (b : Board) (events : List Event) → AreEvents events → HasRisen b → Ticks b events None
ticks_risen b events are r =
    let q = b.pit.counter0.pulses in
    let n = full_count TerminalCount r.count in
    let start : shot r.count q b.pit.counter0 b.timer_high (has 0 0) ≡ shot r.count q b.pit.counter0 true (has 0 0) = ap (λ h. shot r.count q b.pit.counter0 h (has 0 0)) r.high in
    let e = stepped events b r.count q are r.mode r.counts refl
    ∙ ap (λ x. shot_pulsed (shot_pulsed x)) start
    ∙ ap shot_pulsed (pulse_over r.count q b.pit.counter0 (has 0 0) r.over)
    ∙ pulse_over r.count (over n q) b.pit.counter0 (has 0 0) (still_over n q r.over) in (
      line_of_shot (device_step events b) _ e ∙ has-zero 0,
      inr (has_risen (device_step events b) r.count (over n (over n q)) b.pit.counter0 (has 0 0) e (still_over n (over n q) (still_over n q r.over))),
    )

-- a counter without a count stays as it is
idle_parts : (k : Counter) (count : Option ℕ) (high line : Bool) → count ≡ None
    → let x : Counter = record k { count = count } in out_of x ≡ false
    → shot_pulsed (record { counter = x; high = high; line = line }) ≡ record { counter = x; high = false; line = line }
idle_parts k None high line e f =
    let x : Counter = record k { count = None } in
    ap (λ o. record { counter = x; high = o; line = if o && not high then true else line }) f
idle_parts k (Some c) high line e f = cc

idle_of : (s : Rising) (k : Counter) (line : Bool) → shot_of s ≡ record { counter = k; high = false; line = line } → k.count ≡ None → out_of k ≡ false → IsIdle s.board
unfolding shot_of
idle_of s k line e f g = record { counts = ap (λ (x : Shot). x.counter.count) e ∙ f; low = ap (λ (x : Shot). out_of x.counter) e ∙ g }

pub ticks_idle : (b : Board) (events : List Event) → AreEvents events → IsIdle b → Ticks b events None
ticks_idle b events are r =
    let k = b.pit.counter0 in
    let e = shot_stepped events b are
    ∙ ap shot_pulsed (idle_parts k k.count b.timer_high (has 0 0) r.counts r.low)
    ∙ idle_parts k k.count false (has 0 0) r.counts r.low in
    (line_of_shot (device_step events b) _ e ∙ has-zero 0, inl (idle_of (device_step events b) k (has 0 0) e r.counts r.low))
