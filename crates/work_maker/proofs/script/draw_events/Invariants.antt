use Rattle.std.proofs.Common.{◌≡◌, ◌++◌, ◌+◌, ◌-◌}
use Rattle.work_maker.specs.Script.{events_from}
use Rattle.work_maker.proofs.script.draw_events.Given as goal

abbrev pub invariant-loop-index : goal.invariant-loop-index
invariant-loop-index l = l.events ++ events_from (l.count - l.index) (l.index + 1) l.draws.state ≡ events_from l.count 1 l.initial.draws.state
