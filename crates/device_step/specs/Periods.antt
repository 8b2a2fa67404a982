-- The dues of the guest's timer, and the ticks in which it asks line 0.
use Rattle.std.specs.Prelude.{◌≡◌, ◌≤◌, ◌||◌, ℕ, suc}
use Rattle.run_lines.specs.Says.{is_timer_tick}
use Rattle.hardware_lines.specs.Hardware.{timer_due}
use Rattle.schedule_steps.specs.Dues.{has_come}

-- its first due above tick `last` has come by the next tick exactly where it had come by this one, or the next is a tick of the timer
abbrev pub AsksWhenDue : Type 0
AsksWhenDue =
    (last now start period : ℕ) → last ≤ now → start ≤ now
    → has_come (suc now) (timer_due last start period) ≡ (has_come now (timer_due last start period) || is_timer_tick (suc now) start period)
