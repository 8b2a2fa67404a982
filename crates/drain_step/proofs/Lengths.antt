-- How many lines a drain has.
use Rattle.std.proofs.Common.{◌≡◌, ℕ, ◌+◌, ◌≤◌, List, [], ◌∷◌, length, map, arith, subst, Option, Some, None}
use Rattle.std.proofs.lemmas.List.{length-append, length-map}
use Rattle.std.proofs.lemmas.List.Sums.{count_by-le-length, length-filter}
use Rattle.line_sets.specs.LineSet.{has}
use Rattle.line_kinds.specs.declared.kinds.HLine.TheVariants.{Ack, Set}
use Rattle.line_kinds.specs.declared.kinds.RLine.{RLine}
use Rattle.pic_8259.specs.Boot.{acknowledge_order}
use Rattle.hard_dispatch.specs.Service.{in_order}
use Rattle.rt_constants.specs.declared.limits.TheConstants.{THREADS_LIMIT}
use Rattle.rt_timeline.specs.Dues.{count_until}
use Rattle.executive.specs.declared.executive.Executive.{Executive}
use Rattle.priority_schedule.specs.State.{first_state, RealTime}
use Rattle.priority_schedule.specs.Release.{released, Ticking}
use Rattle.hardware_lines.specs.Hardware.{Marking, with_set}
use Rattle.hardware_steps.specs.Steps.{emptied}
use Rattle.schedule_steps.specs.States.{ticking}
use Rattle.drain_step.proofs.Releases.{few_released}

pub few_in_order : (latch : ℕ) → length (in_order latch) ≤ 15
unfolding in_order
few_in_order latch =
    let e = length-filter (λ n. has latch n) acknowledge_order in
    let l = count_by-le-length (λ n. has latch n) acknowledge_order in
    omega (arith, e, l)

pub few_emptied : (now : ℕ) (s : Marking) → length (emptied now s).lines ≤ length s.lines + 15
few_emptied now s =
    let a = length-append s.lines (map Ack (in_order s.hardware.latch)) in
    let m = length-map (in_order s.hardware.latch) Ack in
    let f = few_in_order s.hardware.latch in
    omega (arith, a, m, f)

pub few_set : (now : ℕ) (near : Option ℕ) (s : Marking) → length (with_set now near s).lines ≤ length s.lines + 1
few_set now None s = omega arith
few_set now (Some due) s = let a = length-append s.lines (Set (count_until now due) ∷ []) in omega (arith, a)

-- any state of the real-time side
some_real : RealTime
some_real = first_state (record { version = 1; side = record { first = 0; bytes = [] }; inits = [] })

pub few_lines : (now : ℕ) (old new : Executive) (before after : List RLine)
    → ((latch : ℕ) (m : RealTime) → released THREADS_LIMIT now (ticking latch old m before) ≡ ticking latch new m after)
    → length after ≤ length before + THREADS_LIMIT
few_lines now old new before after h =
    subst (λ (s : Ticking). length s.lines ≤ length before + THREADS_LIMIT) (h 0 some_real)
    (few_released THREADS_LIMIT now (ticking 0 old some_real before))
