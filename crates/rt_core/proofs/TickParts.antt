-- What a tick's steps need of each other.
use Rattle.std.proofs.Common.{◌≡◌, ◌≤◌, ℕ, suc, sym, ap, subst, ◌∙◌, arith, List, length, Option, Some, None}
use Rattle.device_script.specs.declared.event.Event.{Event}
use Rattle.port_map.specs.SerialLine.{byte_sent}
use Rattle.port_board.specs.Board.{rises_of}
use Rattle.port_board.specs.declared.board.Board.{Board}
use Rattle.rt_threads.specs.Threads.{NextFits, thread_at}
use Rattle.trace_lines.specs.TickLines.{TickLines}
use Rattle.bare_machine.specs.Tick.{com1_lines}
use Rattle.priority_schedule.specs.Release.{Ticking}
use Rattle.priority_schedule.specs.Tick.{opened}
use Rattle.hardware_steps.specs.HardwareOf.{IsBoard}
use Rattle.activity_step.proofs.Planned.{live_planned, opens_planned, planned_fits, ticks_planned}
use Rattle.device_step.specs.Stepped.{DevicesStep}
use Rattle.pick_step.specs.Picked.{PickStep}
use Rattle.schedule_laws.specs.Both.{call_among}
use Rattle.run_lines.specs.Ticks.{at_tick}
use Rattle.machine_state.specs.Parts.{MachineParts}
use Rattle.machine_state.specs.Plans.{ArePlanned}
use Rattle.machine_state.specs.Running.{IsRunning}
use Rattle.machine_state.specs.States.{bare_of, real_of}
use Rattle.rt_core.specs.Drained.{DrainedWhere}
use Rattle.rt_core.specs.Ticked.{TickStep}

-- the guest's lines before its unit are one at most
few_sent : (byte : Option ℕ) → length (com1_lines byte) ≤ 1
few_sent None = omega arith
few_sent (Some byte) = omega arith

pub few_guest : (t : ℕ) (events : List Event) (draining : _) (m0 m1 m2 m3 : MachineParts) (l1 l2 l3 : TickLines) → DevicesStep t events m0 m1 l1 → DrainedWhere draining t m1 m2 l1 l2 → PickStep draining m2 m3 l2 l3
    → length l3.g ≤ 7
few_guest t events draining m0 m1 m2 m3 l1 l2 l3 first second third =
    let same : l3.g ≡ com1_lines (byte_sent (bare_of m0).com1) = ap (λ (l : TickLines). l.g) third.lines ∙ second.guest_lines ∙ first.guest_lines in
    let few = few_sent (byte_sent (bare_of m0).com1) in
    rw same (omega (arith, few))

-- each next due fits when the unit comes
pub nexts_fit : (k t : ℕ) (events : List Event) (m0 m3 : MachineParts) (lines : TickLines) → k ≤ 1000000000 → ArePlanned k (real_of m0).threads
    → record { real = real_of m3; lines = lines.r } ≡ opened t events (real_of m0) → (i : ℕ) → NextFits (thread_at m3.all.threads i)
nexts_fit k t events m0 m3 lines few planned is =
    let here : ArePlanned k (real_of m3).threads = subst (λ (x : Ticking). ArePlanned k x.real.threads) (sym is) (opens_planned k t events (real_of m0) planned) in
    planned_fits k m3.all.threads few (live_planned k m3.processor.on m3.processor.registers m3.all.threads here)

-- and after the tick they are planned for one tick more
pub planned_after : (k t : ℕ) (m0 m5 : MachineParts) (lines : TickLines) → t ≡ suc k → ArePlanned k (real_of m0).threads → TickStep t m0 m5 lines → ArePlanned t (real_of m5).threads
planned_after k t m0 m5 lines e planned step =
    let after = ticks_planned k t (at_tick t m0.coming) (call_among lines.g) (real_of m0) planned in
    subst (λ n. ArePlanned n (real_of m5).threads) (sym e) (subst (λ (x : Ticking). ArePlanned (suc k) x.real.threads) (sym step.real) after)

-- the timer changes counter 0 alone

pub timed_running : (m : MachineParts) (board : Board) (coming : List (ℕ × Event)) → board ≡ record m.board { pit = board.pit } → IsBoard board → IsRunning m → IsRunning (record m { board = board; coming = coming })
timed_running m board coming rest is r = record {
  few = r.few;
  sizes = r.sizes;
  board = is;
  taken = ap rises_of rest ∙ r.taken;
  agrees = r.agrees;
  lines = r.lines;
  ready = r.ready;
  table = r.table;
  timer = r.timer;
  past = r.past;
  due = r.due;
}

pub timed_bare : (m : MachineParts) (board : Board) (coming : List (ℕ × Event)) → board ≡ record m.board { pit = board.pit } → bare_of (record m { board = board; coming = coming }) ≡ bare_of m
timed_bare m board coming rest = ap (λ (b : Board). bare_of (record m { board = b; coming = coming })) rest

pub timed_real : (m : MachineParts) (board : Board) (coming : List (ℕ × Event)) → board ≡ record m.board { pit = board.pit } → real_of (record m { board = board; coming = coming }) ≡ real_of m
timed_real m board coming rest = ap (λ (b : Board). real_of (record m { board = b; coming = coming })) rest
