-- The drain where nothing is latched: nothing changes.
use Rattle.std.proofs.Common.{◌≡◌, ◌∙◌, ℕ, Bool, true, false, List, ◌++◌, map, append-nil, ap, sym, refl, Option, Some, None, is_some}
use Rattle.std.specs.Prelude.{if◌then◌else◌}
use Rattle.line_sets.specs.LineSet.{has}
use Rattle.line_sets.proofs.LineSetLemmas.{has-zero}
use Rattle.line_kinds.specs.declared.kinds.HLine.{HLine}
use Rattle.line_kinds.specs.declared.kinds.HLine.TheVariants.{Ack}
use Rattle.pic_8259.specs.Boot.{IsBooted}
use Rattle.pic_8259.specs.Controllers.{Controllers, IsPair, latch_of, request_of}
use Rattle.pic_8259.proofs.Requests.{in_order as request_in_order}
use Rattle.rt_timeline.specs.Dues.{come, nearest_from}
use Rattle.hard_dispatch.specs.Service.{in_order}
use Rattle.hard_dispatch.proofs.Requests.{empty_latch}
use Rattle.hard_dispatch.proofs.Turns.{no_turn}
use Rattle.priority_schedule.specs.Release.{nearest, Ticking}
use Rattle.priority_schedule.proofs.Released.{released_done}
use Rattle.hardware_lines.specs.Hardware.{drain_step, Hardware, Machines, Marking, next_due, with_set}
use Rattle.trace_lines.specs.TickLines.{TickLines}
use Rattle.schedule_steps.specs.Rounds.{NoneCome}
use Rattle.machine_state.specs.Parts.{MachineParts}
use Rattle.machine_state.specs.Running.{IsRunning}
use Rattle.machine_state.specs.States.{hardware_at, machines_of, real_of}
use Rattle.machine_state.proofs.Dues.{live_dues}
use Rattle.drain_step.specs.Drained.{DrainStep}

-- where the pair requests no line, none is latched
none_requested : (x : Option ℕ) → is_some x ≡ false → x ≡ None
none_requested None e = refl
none_requested (Some n) e = absurd cc

pub none_stands : (p : Controllers) → IsPair p → IsBooted p → is_some (request_of p) ≡ false → latch_of p ≡ 0
none_stands p ok b e = empty_latch p ok (sym (request_in_order p ok b) ∙ none_requested (request_of p) e)

-- line 0 isn't among the lines of an empty latch
pub closed : (latch : ℕ) → latch ≡ 0 → has latch 0 ≡ false
closed latch e = ap (λ l. has l 0) e ∙ has-zero 0

-- with the registers of what is on there is no due either
live_none : (now : ℕ) (m : MachineParts) → NoneCome now m.all → come now (nearest (real_of m).threads) ≡ None
unfolding nearest
live_none now m none =
    ap (λ dues. come now (nearest_from 0 dues)) (live_dues m.processor.on m.processor.registers m.all.threads) ∙ none.threads

-- and there is nothing to acknowledge
no_acks : (latch : ℕ) (lines : List HLine) → latch ≡ 0 → lines ++ map Ack (in_order latch) ≡ lines
no_acks latch lines e = ap (λ l. lines ++ map Ack (in_order l)) e ∙ (ap (λ ns. lines ++ map Ack ns) no_turn ∙ append-nil lines)

-- what the definition leaves, by whether line 0 is latched, what is latched then and the lines
abbrev left : ℕ → Machines → Hardware → Bool → ℕ → List HLine → Marking
left now m h timer latch lines =
    if timer then with_set now (next_due now m) (record { hardware = record h { latch = latch; last = now }; lines = lines })
    else record { hardware = record h { latch = latch }; lines = lines }

nothing_drained : (now : ℕ) (m : Machines) (s : Marking) → s.hardware.latch ≡ 0 → s ≡ drain_step now true m s
nothing_drained now m s e =
    sym (ap (λ timer. left now m s.hardware timer 0 (s.lines ++ map Ack (in_order s.hardware.latch))) (closed s.hardware.latch e)
    ∙ ap (left now m s.hardware false 0) (no_acks s.hardware.latch s.lines e)
    ∙ ap (λ latch. left now m s.hardware false latch s.lines) (sym e))

pub nothing_latched : (now : ℕ) (m : MachineParts) (lines : TickLines) → latch_of m.board.pair ≡ 0 → NoneCome now m.all → IsRunning m
    → DrainStep now m m lines lines
nothing_latched now m lines e none run = record {
  bare = refl;
  real = sym (released_done now (let t : Ticking = record { real = real_of m; lines = lines.r } in t) (live_none now m none));
  hardware = nothing_drained now (machines_of m) (let s : Marking = record { hardware = hardware_at m; lines = lines.h } in s) e;
  guest_lines = refl;
  emptied = e;
  calm = none.guest;
  running = run;
}
