-- The due of the guest's timer, and the sets of lines without a latched one.
use Rattle.std.proofs.Common.{◌≡◌, ℕ, ◌+◌, ◌-◌, ◌*◌, ◌/◌, ◌<◌, ◌==◌, false, nat_le, refl, arith, inl, inr}
use Rattle.std.proofs.lemmas.Bool.{cases_Bool}
use Rattle.std.proofs.lemmas.Bool.Decides.{nat_tests}
use Rattle.std.proofs.Math.Nat.{div-lt_iff_lt-mul}
use Rattle.line_sets.specs.LineSet.{minus}
use Rattle.line_sets.proofs.LineSetLemmas.{has-minus, has-union, has-zero, same_lines}
use Rattle.rt_irqs.specs.Irqs.{Lines}
use Rattle.hard_dispatch.specs.Dispatch.{guest_lines, held_lines}
use Rattle.hard_dispatch.specs.Sets.{asked_lines}
use Rattle.hardware_lines.specs.Hardware.{timer_due}
use Rattle.schedule_steps.specs.Dues.{has_come}

-- the first due above a tick is above it
pub due_above : (now start period : ℕ) → has_come now (timer_due now start period) ≡ false
due_above now start period = elim (cases_Bool (period == 0)) [
  | inl off ↦ rw off refl
  | inr on ↦
      let some : 0 < period = grind (arith, nat_tests) in
      let l : now - start < ((now - start) / period + 1) * period =
      (div-lt_iff_lt-mul {k = period} {x = now - start} {y = (now - start) / period + 1} some).0 (omega arith) in
      let above : now < start + ((now - start) / period + 1) * period = omega (arith, l) in
      let e : nat_le (start + ((now - start) / period + 1) * period) now ≡ false = grind (arith, nat_tests, above) in
      rw on e
]

-- where nothing is latched, just what is marked is asked
pub none_asked : (irqs : Lines) (pending : ℕ) → asked_lines 0 irqs pending ≡ pending
none_asked irqs pending = same_lines (asked_lines 0 irqs pending) pending (λ n.
    let all = has-union pending (guest_lines 0 irqs) n in
    let free = has-minus (minus 0 (held_lines irqs)) 9 n in
    let none = has-minus 0 (held_lines irqs) n in
    grind (arith, all, free, none, has-zero n))
