use Rattle.std.proofs.Common.{ℕ, List, arith, ◌*◌, ◌-◌, ◌+◌, subst, Some}
use Rattle.ready_queues.specs.PrioritySet.{IsHighest}
use Rattle.ready_queues.proofs.Bits.{step_down, found}
use Rattle.ready_queues.proofs.priority_set.PrioritySet.highest.Goals as goal

pub returns-then-word-ne0 : goal.returns-then-word-ne0
returns-then-word-ne0 c = subst (λ (ws : List ℕ). IsHighest ws (Some (64 * (3 - c.loop-step.step) + c.top_bit.result))) c.self.view_is (found c.self.inside.words c.loop-step.step c.top_bit.result (omega arith) c.top_bit.ensures.within c.top_bit.ensures.one c.top_bit.ensures.above c.loop-step.invariant)

pub loop-step-preserved : goal.loop-step-preserved
loop-step-preserved c = step_down c.self.inside.words c.loop-step.step (omega arith) (omega arith) c.loop-step.invariant
