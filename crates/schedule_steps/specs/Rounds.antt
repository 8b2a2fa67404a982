-- One round of the releases: the first due that has come is taken, by due, threads by number before the guest.
use Rattle.std.specs.Prelude.{◌≡◌, ℕ, ◌+◌, Bool, true, false, length, if◌then◌else◌, Option, Some, None}
use Rattle.rt_constants.specs.declared.limits.TheConstants.{THREADS_LIMIT}
use Rattle.rt_timeline.specs.declared.timeline.Due.{Due}
use Rattle.rt_timeline.specs.declared.timeline.Due.TheVariants.{Thread, Guest}
use Rattle.rt_timeline.specs.Dues.{come}
use Rattle.executive.specs.declared.executive.Executive.{Executive}
use Rattle.executive.specs.Agreement.{Agrees}
use Rattle.priority_schedule.specs.State.{RealTime}
use Rattle.priority_schedule.specs.Release.{nearest, released}
use Rattle.trace_lines.specs.TickLines.{TickLines}
use Rattle.schedule_steps.specs.Dues.{dues_come, has_come, threads_come}
use Rattle.schedule_steps.specs.States.{ticking}

abbrev pub is_guest : Due → Bool
is_guest Guest = true
is_guest (Thread i) = false

-- what releases have left so far, where the guest's due was among them or not: what is still to be released comes to the same
pub record Releases (now : ℕ) (old new : Executive) (before after : TickLines) (guest : Bool) : Type 0 where
  pub released : (latch : ℕ) (m : RealTime) → released THREADS_LIMIT now (ticking latch old m before.r) ≡ released THREADS_LIMIT now (ticking latch new m after.r)
  pub agrees : Agrees new
  -- each line is a due of a thread that was taken
  pub room : length after.r + threads_come now new.timeline.threads ≡ length before.r + threads_come now old.timeline.threads
  pub due : new.timeline.guest ≡ (if guest then None else old.timeline.guest)
  pub came : guest ≡ true → has_come now old.timeline.guest ≡ true
  pub version : new.ready.version ≡ old.ready.version
  pub fifos : new.fifos ≡ old.fifos
  pub irqs : new.irqs ≡ old.irqs
  pub g : after.g ≡ before.g
  pub h : after.h ≡ before.h

-- no due has come
pub record NoneCome (now : ℕ) (all : Executive) : Type 0 where
  pub threads : come now (nearest all.threads) ≡ None
  pub guest : has_come now all.timeline.guest ≡ false

abbrev pub IsRound : ℕ → Executive → Executive → TickLines → TickLines → Option Due → Type 0
IsRound now old new before after None = (new ≡ old) × (after ≡ before) × NoneCome now old
IsRound now old new before after (Some owner) =
    Releases now old new before after (is_guest owner) × (dues_come now new.timeline + 1 ≡ dues_come now old.timeline)
