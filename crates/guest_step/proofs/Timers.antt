-- The guest's timer and its due after the guest's unit.
use Rattle.std.proofs.Common.{◌≡◌, ℕ, ◌+◌, ◌-◌, ◌*◌, ◌/◌, ◌≤◌, ◌==◌, nat_le, false, inl, inr, refl, sym, ap, ◌∙◌, arith, subst, Some, None}
use Rattle.std.specs.Prelude.{if◌then◌else◌}
use Rattle.std.proofs.Math.Nat.{zero-div}
use Rattle.std.proofs.lemmas.Bool.{cases_Bool}
use Rattle.std.proofs.lemmas.Bool.Decides.{nat_tests}
use Rattle.rt_timeline.specs.Dues.{Dues}
use Rattle.hardware_lines.specs.Hardware.{timer_due}
use Rattle.schedule_steps.specs.Dues.{has_come}
use Rattle.machine_state.specs.Changed.{TellsDues}
use Rattle.machine_state.specs.Running.{IsTimer}
use Rattle.machine_state.specs.declared.change.DueChange.{DueChange}
use Rattle.machine_state.specs.declared.change.DueChange.TheVariants.{Same, Was}
use Rattle.machine_state.specs.declared.guest.Guest.{Guest}
use Rattle.guest_step.specs.Leaves.{Times, due_from}

-- a due that was just set lies ahead
due_ahead : (t period : ℕ) → has_come t (due_from t period) ≡ false
due_ahead t period = elim (cases_Bool (period == 0)) [
  | inl off ↦ rw off refl
  | inr on ↦ (let later : nat_le (t + period) t ≡ false = grind (arith, nat_tests, on) in rw on later)
]

-- it is the timer's first one above the last acknowledgement
due_first : (t last period : ℕ) → last ≤ t → due_from t period ≡ timer_due last t period
due_first t last period past =
    let none : last - t ≡ 0 = omega arith in
    let first : (last - t) / period ≡ 0 = ap (λ n. n / period) none ∙ zero-div period in
    let one : period ≡ (0 + 1) * period = omega arith in
    ap (λ n. if period == 0 then None else Some (t + n)) one
    ∙ ap (λ n. if period == 0 then None else Some (t + (n + 1) * period)) (sym first)

pub due_calm : (t : ℕ) (change : DueChange) (old new : Guest) (dues after : Dues) → Times t change old new dues after
    → has_come t dues.guest ≡ false → has_come t after.guest ≡ false
due_calm t Same old new dues after times none = ap (λ (d : Dues). has_come t d.guest) times.due ∙ none
due_calm t (Was before) old new dues after times none = ap (λ (d : Dues). has_come t d.guest) times.due ∙ due_ahead t new.timer_period

pub due_told : (t : ℕ) (change : DueChange) (old new : Guest) (dues after : Dues) → Times t change old new dues after
    → TellsDues change dues after
due_told t Same old new dues after times = times.due
due_told t (Was before) old new dues after times = times.nearest

pub threads_kept : (t : ℕ) (change : DueChange) (old new : Guest) (dues after : Dues) → Times t change old new dues after
    → after.threads ≡ dues.threads
threads_kept t Same old new dues after times = ap (λ (d : Dues). d.threads) times.due
threads_kept t (Was before) old new dues after times = ap (λ (d : Dues). d.threads) times.due

pub timer_holds : (t : ℕ) (change : DueChange) (old new : Guest) (dues after : Dues) → Times t change old new dues after
    → IsTimer t old → IsTimer t new
timer_holds t Same old new dues after times is = record {
  start = subst (λ n. n ≤ t) (sym times.start) is.start;
  period = subst (λ n. n ≤ 1000000000) (sym times.period) is.period;
}
timer_holds t (Was before) old new dues after times is = record { start = (let e = times.start in omega (arith, e)); period = times.period }

pub due_is : (t last : ℕ) (change : DueChange) (old new : Guest) (dues after : Dues) → last ≤ t → Times t change old new dues after
    → dues.guest ≡ timer_due last old.timer_start old.timer_period → after.guest ≡ timer_due last new.timer_start new.timer_period
due_is t last Same old new dues after past times is =
    ap (λ (d : Dues). d.guest) times.due ∙ is
    ∙ ap (λ start. timer_due last start old.timer_period) (sym times.start) ∙ ap (timer_due last new.timer_start) (sym times.period)
due_is t last (Was before) old new dues after past times is =
    ap (λ (d : Dues). d.guest) times.due ∙ due_first t last new.timer_period past
    ∙ ap (λ start. timer_due last start new.timer_period) (sym times.start)
