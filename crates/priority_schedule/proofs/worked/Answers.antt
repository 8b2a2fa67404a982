use Rattle.std.proofs.Common.{refl}
use Rattle.cpu_state.specs.Registers.{starting}
use Rattle.line_sets.specs.LineSet.{without_line, first_in}
use Rattle.rt_irqs.specs.Irqs.{next_of}
use Rattle.rt_ready.specs.Order.{first_place}
use Rattle.rt_fifos.specs.Fifos.{without_mark}
use Rattle.priority_schedule.specs.Release.{nearest, released}
use Rattle.priority_schedule.specs.State.{first_state}
use Rattle.priority_schedule.specs.Worked.{some_state, released_five}
use Rattle.priority_schedule.proofs.worked.Goals as goal

pub returns-clause-releases : goal.returns-clause-releases
unfolding released_five some_state first_state nearest released starting
returns-clause-releases c = record { lines = refl; ready = refl; still_waiting = refl }

pub returns-clause-order : goal.returns-clause-order
unfolding some_state first_state first_place next_of first_in starting
returns-clause-order c = record { init = refl; line = refl; fifo = refl; closed = refl; guest = refl }

pub returns-clause-handlers : goal.returns-clause-handlers
unfolding some_state first_state starting without_line without_mark
returns-clause-handlers c = record {
  entry = refl;
  number = refl;
  stack = refl;
  top = refl;
  line_mark = refl;
  fifo_mark = refl;
}
