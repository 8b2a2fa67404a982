use Rattle.std.proofs.Common.{◌≤◌, drop, length, ◌-◌}
use Rattle.rt_core.proofs.Events.{Taking}
use Rattle.rt_core.proofs.coming.take_events.Given as goal

abbrev pub invariant-loop-into : goal.invariant-loop-into
invariant-loop-into l = record {
  place : l.next ≤ length l.events;
  taking : Taking l.now (drop l.fn.next l.events) (drop l.next l.events) l.into l.count;
}

abbrev pub decreases-loop-into : goal.decreases-loop-into
decreases-loop-into l = length l.events - l.next
