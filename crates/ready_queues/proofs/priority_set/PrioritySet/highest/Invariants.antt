use Rattle.std.proofs.Common.{◌≡◌, ◌<◌, ◌≤◌, ℕ, ◌*◌, ◌-◌, false}
use Rattle.ready_queues.specs.PrioritySet.{has}
use Rattle.ready_queues.proofs.priority_set.PrioritySet.highest.Given as goal

abbrev pub invariant-loop-step : goal.invariant-loop-step
invariant-loop-step l = (p : ℕ) → p < 256 → 64 * (4 - l.step) ≤ p → has l.self-inside.words p ≡ false
