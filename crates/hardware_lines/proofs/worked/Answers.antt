use Rattle.std.proofs.Common.{refl}
use Rattle.line_sets.specs.LineSet.{with_line, without_line}
use Rattle.hard_dispatch.specs.Service.{in_order}
use Rattle.bare_machine.specs.State.{first_state as first_bare}
use Rattle.priority_schedule.specs.Release.{nearest}
use Rattle.priority_schedule.specs.State.{first_state as first_real}
use Rattle.port_map.specs.SerialLine.{new_serial}
use Rattle.hardware_lines.specs.Worked.{timed, low, high}
use Rattle.hardware_lines.proofs.worked.Goals as goal

pub returns-clause-shots : goal.returns-clause-shots
returns-clause-shots c = record { near = refl; past = refl; far = refl; chain = refl; none = refl }

pub returns-clause-guest_dues : goal.returns-clause-guest_dues
unfolding timed first_bare first_real nearest
returns-clause-guest_dues c = record { first = refl; between = refl; next = refl; off = refl }

pub returns-clause-rises : goal.returns-clause-rises
unfolding low high new_serial with_line
returns-clause-rises c = record { com1 = refl; com2 = refl; both = refl; neither = refl }

pub returns-clause-edges : goal.returns-clause-edges
unfolding with_line in_order
returns-clause-edges c = record { edges = refl; latch = refl; acks = refl; emptied = refl; closed = refl }

pub returns-clause-served : goal.returns-clause-served
unfolding timed first_bare first_real nearest in_order
returns-clause-served c = refl

pub returns-clause-owner_changed : goal.returns-clause-owner_changed
unfolding without_line
returns-clause-owner_changed c = record { stood = refl; fell = refl }

pub returns-clause-timers : goal.returns-clause-timers
unfolding timed first_bare first_real nearest
returns-clause-timers c = record { changed = refl; same = refl; gone = refl }
