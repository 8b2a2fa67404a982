-- What a machine stands for after a device step.
use Rattle.std.proofs.Common.{◌≡◌, ℕ, suc, ◌+◌, ◌-◌, ◌≤◌, Bool, not, ◌&&◌, ◌||◌, ◌==◌, Option, Some, None}
use Rattle.std.proofs.Common.{List, [], ◌++◌, map, filter, fold, length, refl, sym, ap, ◌∙◌, subst, arith}
use Rattle.std.specs.Prelude.{if◌then◌else◌}
use Rattle.std.proofs.lemmas.List.{length-map}
use Rattle.std.proofs.lemmas.List.Filters.{length-filter_both}
use Rattle.line_sets.specs.LineSet.{has, union, with_line}
use Rattle.pic_8259.specs.Controllers.{latch_of}
use Rattle.uart_16550.specs.SerialPort.{leaves}
use Rattle.device_script.specs.declared.event.Event.{Event}
use Rattle.device_script.specs.Events.{lines_of, com1_bytes, com2_bytes}
use Rattle.line_kinds.specs.declared.kinds.RLine.{RLine}
use Rattle.line_kinds.specs.declared.kinds.HLine.{HLine}
use Rattle.line_kinds.specs.declared.kinds.HLine.TheVariants.{Edge}
use Rattle.port_map.specs.declared.com_port.ComPort.{ComPort}
use Rattle.port_map.specs.declared.com_port.ComPort.TheVariants.{Com1, Com2}
use Rattle.port_map.specs.Serial.{Serial, rose}
use Rattle.port_map.specs.SerialLine.{ticked, all_received, sampled, byte_sent}
use Rattle.port_board.specs.Board.{AreEvents, device_step, serial_of, rises_of}
use Rattle.port_board.specs.Left.{ticks_left}
use Rattle.port_board.specs.OneShot.{rises_next}
use Rattle.port_board.specs.Steps.{is_raised, serial_stepped}
use Rattle.port_board.specs.declared.board.Board.{Board}
use Rattle.port_board.proofs.DeviceSteps.{steps_devices}
use Rattle.rt_irqs.specs.Irqs.{Lines}
use Rattle.hard_dispatch.specs.Dispatch.{held_lines}
use Rattle.run_lines.specs.Says.{asks, is_timer_tick}
use Rattle.bare_machine.specs.State.{Bare}
use Rattle.bare_machine.specs.Tick.{com1_lines, prepared}
use Rattle.priority_schedule.specs.State.{RealTime}
use Rattle.priority_schedule.specs.Release.{Ticking}
use Rattle.priority_schedule.specs.Tick.{begun, devices, com2_lines, marked_if_held}
use Rattle.priority_schedule.specs.Unit.{marked_by}
use Rattle.hardware_lines.specs.Hardware.{Marking, devices_of, edge_step, rising_order, timer_due}
use Rattle.trace_lines.specs.TickLines.{TickLines, no_tick_lines}
use Rattle.schedule_steps.specs.Dues.{has_come}
use Rattle.hardware_steps.specs.HardwareOf.{IsBoard, marking_of}
use Rattle.hardware_steps.specs.Laws.{HasSerials}
use Rattle.hardware_steps.specs.Steps.{board_edges, board_stepped}
use Rattle.hardware_steps.proofs.ByDefinition.{device_step_is}
use Rattle.hardware_steps.proofs.EdgeSets.{raised_is}
use Rattle.machine_state.specs.Parts.{MachineParts}
use Rattle.machine_state.specs.Running.{IsRunning}
use Rattle.machine_state.specs.States.{bare_of, hardware_at, machines_of, real_of}
use Rattle.device_step.specs.Stepped.{DevicesStep}
use Rattle.device_step.proofs.Dividing.{asks as asks_when_due}
use Rattle.device_step.proofs.Ports.{com1_stepped, com2_stepped}
use Rattle.device_step.proofs.RaisedLines.{not_among}
use Rattle.device_step.proofs.Asked.{Rises, Causes, asked_after}
use Rattle.device_step.proofs.Marked.{marked_after}

abbrev com_rose : ComPort → Board → Board → Bool
com_rose which b after = rose (serial_of which b) (serial_of which after)

-- what a board's device step does to its serial ports and to what is latched
pub record Moves (events : List Event) (b after : Board) : Type 0 where
  pub serial : (which : ComPort) → serial_of which after ≡ serial_stepped which events (serial_of which b)
  pub rises : Rises (latch_of b.pair) (latch_of after.pair) (rises_next (ticks_left b)) (com_rose Com1 b after) (com_rose Com2 b after)
      (lines_of events)
  pub taken : rises_of after ≡ rises_of b

cause : (events : List Event) (timer com1 com2 : Bool) (n : ℕ)
    → ((n == 0 && timer) || ((n == 4 && com1) || ((n == 3 && com2) || is_raised n events))) ≡ Causes timer com1 com2 (lines_of events) n
cause events timer com1 com2 n = ap (λ x. (n == 0 && timer) || ((n == 4 && com1) || ((n == 3 && com2) || x))) (raised_is n events)

by_step : (events : List Event) (b : Board) → AreEvents events → IsBoard b → Moves events b (device_step events b).board
by_step events b are is =
    let k = steps_devices b events are in
    let after = (device_step events b).board in
    record {
      serial = k.serial;
      rises = record {
        latched = λ n. k.latched is.pair n ∙ ap (λ x. has (latch_of b.pair) n || x) (k.rising is.shot n
            ∙ cause events (rises_next (ticks_left b)) (com_rose Com1 b after) (com_rose Com2 b after) n);
        no_timer = not_among 0 events refl are;
        no_com2 = not_among 3 events refl are;
      };
      taken = k.rises;
    }

pub moves : (events : List Event) (b after : Board) → AreEvents events → IsBoard b → after ≡ (device_step events b).board → Moves events b after
moves events b after are is e = subst (Moves events b) (sym e) (by_step events b are is)

com1_after : (events : List Event) (b after : Board) → Moves events b after
    → sampled (all_received (com1_bytes events) (ticked (serial_of Com1 b))) ≡ serial_of Com1 after
com1_after events b after k = com1_stepped events (serial_of Com1 b) ∙ sym (k.serial Com1)

com2_after : (events : List Event) (b after : Board) → Moves events b after
    → sampled (all_received (com2_bytes events) (ticked (serial_of Com2 b))) ≡ serial_of Com2 after
com2_after events b after k = com2_stepped events (serial_of Com2 b) ∙ sym (k.serial Com2)

-- 1. The bare machine

comes : (now k last start period : ℕ) (due : Option ℕ) → now ≡ suc k → due ≡ timer_due last start period → last ≤ k → start ≤ k
    → has_come now due ≡ (has_come k due || is_timer_tick now start period)
comes now k last start period due e d before after =
    ap (has_come now) d ∙ ap (λ t. has_come t (timer_due last start period)) e
    ∙ asks_when_due last k start period before after
    ∙ ap (λ t. has_come k (timer_due last start period) || is_timer_tick t start period) (sym e)
    ∙ ap (λ x. has_come k x || is_timer_tick now start period) (sym d)

bare_parts : (b : Bare) (p q : Serial) (x y : ℕ) → p ≡ q → x ≡ y
    → (let c : Bare = record b { com1 = p; asked = x } in c) ≡ record b { com1 = q; asked = y }
bare_parts b p q x y e f = cc

bare_after : (now : ℕ) (events : List Event) (m : MachineParts) (b after : Board) → now ≡ suc m.ticks → IsRunning (record m { board = b })
    → Moves events b after
    → bare_of (record m { board = after; ticks = now }) ≡ prepared now events (held_lines m.all.irqs) (bare_of (record m { board = b }))
unfolding prepared
bare_after now events m b after e run k =
    let old = bare_of (record m { board = b }) in
    let port = com1_after events b after k in
    let more = asks now (held_lines m.all.irqs) (lines_of events) m.guest.timer_start m.guest.timer_period in
    bare_parts (bare_of (record m { board = after; ticks = now })) _ _ _ _ (sym port)
    (asked_after (latch_of b.pair) (latch_of after.pair) m.guest.pending m.all.irqs (lines_of events) (has_come m.ticks m.all.timeline.guest)
    (is_timer_tick now m.guest.timer_start m.guest.timer_period) (has_come now m.all.timeline.guest) _ _ _ run.lines k.rises
    (comes now m.ticks m.last m.guest.timer_start m.guest.timer_period m.all.timeline.guest e run.due run.past run.timer.start)
    ∙ ap (λ c. union (if rose old.com1 c then with_line old.asked 4 else old.asked) more) (sym port))

-- 2. The real-time side

real_parts : (r : RealTime) (i j : Lines) (p q : Serial) (lines : List RLine) → i ≡ j → p ≡ q
    → (let s : Ticking = record { real = record r { irqs = i; com2 = p }; lines = lines } in s)
    ≡ record { real = record r { irqs = j; com2 = q }; lines = lines }
real_parts r i j p q lines e f = cc

real_after : (now : ℕ) (events : List Event) (m : MachineParts) (b after : Board) → IsRunning (record m { board = b }) → Moves events b after
    → (let s : Ticking = record { real = real_of (record m { board = after; ticks = now }); lines = com2_lines (leaves b.com2) } in s)
    ≡ devices events (begun (real_of (record m { board = b })))
unfolding devices byte_sent
real_after now events m b after run k =
    let old = real_of (record m { board = b }) in
    let port = com2_after events b after k in
    real_parts (real_of (record m { board = after; ticks = now })) _ _ _ _ (com2_lines (leaves b.com2))
    (marked_after (latch_of b.pair) (latch_of after.pair) m.all.irqs (lines_of events) _ _ _ run.lines k.rises
    ∙ ap (λ c. marked_by (rose old.com2 c) (record old.irqs { marked = fold (marked_if_held old.irqs) old.irqs.marked (lines_of events) }))
    (sym port))
    (sym port)

-- 3. The hardware

devices_after : (events : List Event) (m : MachineParts) (b after : Board) → Moves events b after
    → HasSerials (devices_of events (machines_of (record m { board = b }))) after
devices_after events m b after k = record { com1 = com1_after events b after k; com2 = com2_after events b after k }

hardware_after : (now : ℕ) (events : List Event) (m : MachineParts) (b after : Board) (h : List HLine) → now ≡ suc m.ticks → Moves events b after
    → marking_of now m.last after h ≡ board_stepped m.ticks m.last events b after []
    → (let s : Marking = record { hardware = hardware_at (record m { board = after; ticks = now }); lines = h } in s)
    ≡ edge_step now events (machines_of (record m { board = b })) (devices_of events (machines_of (record m { board = b })))
    (record { hardware = hardware_at (record m { board = b }); lines = [] })
hardware_after now events m b after h e k stepped =
    let old = machines_of (record m { board = b }) in
    stepped
    ∙ device_step_is m.ticks m.last events b after [] old (devices_of events old) (record { com1 = refl; com2 = refl })
    (devices_after events m b after k)
    ∙ ap (λ t. edge_step t events old (devices_of events old) (marking_of m.ticks m.last b [])) (sym e)

-- 4. What holds of the machine

running_after : (now : ℕ) (events : List Event) (m : MachineParts) (b after : Board) → now ≡ suc m.ticks → now ≤ 1000000000 → rises_of b ≡ 0
    → IsBoard after
    → IsRunning (record m { board = b }) → Moves events b after → IsRunning (record m { board = after; ticks = now })
running_after now events m b after e few none is run k =
    let past = run.past in
    let start = run.timer.start in
    record {
      few = few;
      sizes = run.sizes;
      board = is;
      taken = k.taken ∙ none;
      agrees = run.agrees;
      lines = run.lines;
      ready = run.ready;
      table = run.table;
      timer = record { start = omega (arith, e, start); period = run.timer.period };
      past = omega (arith, e, past);
      due = run.due;
    }

-- the whole step
pub whole : (now : ℕ) (events : List Event) (m : MachineParts) (b after : Board) (h : List HLine) → now ≡ suc m.ticks → now ≤ 1000000000
    → rises_of b ≡ 0
    → IsBoard after → IsRunning (record m { board = b }) → Moves events b after
    → marking_of now m.last after h ≡ board_stepped m.ticks m.last events b after []
    → DevicesStep now events (record m { board = b }) (record m { board = after; ticks = now })
    (record { r = com2_lines (leaves b.com2); g = com1_lines (leaves b.com1); h = h })
unfolding byte_sent
whole now events m b after h e few none is run k stepped = record {
  bare = bare_after now events m b after e run k;
  real = real_after now events m b after run k;
  hardware = hardware_after now events m b after h e k stepped;
  guest_lines = refl;
  running = running_after now events m b after e few none is run k;
}

-- The lines

pub pushed : (first edges com2 com1 : TickLines) (left1 left2 sent1 sent2 : Option ℕ) → first ≡ no_tick_lines → edges ≡ record first { h = edges.h }
    → com2 ≡ record edges { r = com2_lines left2 } → com1 ≡ record com2 { g = com1_lines left1 } → left1 ≡ sent1 → left2 ≡ sent2
    → com1 ≡ record { r = com2_lines sent2; g = com1_lines sent1; h = edges.h }
pushed first edges com2 com1 left1 left2 sent1 sent2 a b c d e f =
    d ∙ ap (λ x. record com2 { g = com1_lines x }) e ∙ ap (λ (l : TickLines). record l { g = com1_lines sent1 })
    (c ∙ ap (λ x. record edges { r = com2_lines x }) f
    ∙ ap (λ (l : TickLines). record l { r = com2_lines sent2 }) (b ∙ ap (λ (l : TickLines). record l { h = edges.h }) a))

few_picked : (p : ℕ → Bool) (lines : List ℕ) (n : ℕ) → length lines ≤ n → length (map Edge (filter p lines)) ≤ n
few_picked p lines n few =
    let both : length (filter p lines) + length (filter (λ k. not (p k)) lines) ≡ length lines =
    length-filter_both p (λ k. not (p k)) (λ k. refl) lines in
    rw (length-map (filter p lines) Edge) (omega (arith, both, few))

one_line : (byte : Option ℕ) → length (com2_lines byte) ≤ 1
one_line None = omega arith
one_line (Some byte) = omega arith

pub few_lines : (now : ℕ) (events : List Event) (b after : Board) (before h : List HLine) (com1 com2 : Option ℕ) (lines : TickLines) → 1 ≤ now
    → ((k last : ℕ) → now ≡ suc k → marking_of now last after h ≡ board_stepped k last events b after before) → before ≡ []
    → lines ≡ record { r = com2_lines com2; g = com1_lines com1; h = h } → (length lines.r ≤ 1) × (length lines.h ≤ 16)
few_lines now events b after before h com1 com2 lines some stepped none is =
    let e : now ≡ suc (now - 1) = omega arith in
    let edges = board_edges (now - 1) events b after in
    let hs : h ≡ map Edge (filter (has edges) rising_order) =
    ap (λ (s : Marking). s.lines) (stepped (now - 1) 0 e) ∙ ap (λ xs. xs ++ map Edge (filter (has edges) rising_order)) none in
    subst (λ (l : TickLines). (length l.r ≤ 1) × (length l.h ≤ 16)) (sym is)
    (one_line com2, subst (λ xs. length xs ≤ 16) (sym hs) (few_picked (has edges) rising_order 16 (omega arith)))
