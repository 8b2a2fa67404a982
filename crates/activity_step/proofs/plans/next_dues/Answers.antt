use Rattle.activity_step.proofs.Planned.{live_planned, opens_planned, planned_fits, ticks_planned}
use Rattle.activity_step.proofs.plans.next_dues.Goals as goal

pub returns-clause-opens : goal.returns-clause-opens
returns-clause-opens c = opens_planned

pub returns-clause-ticks : goal.returns-clause-ticks
returns-clause-ticks c = ticks_planned

pub returns-clause-live : goal.returns-clause-live
returns-clause-live c = live_planned

pub returns-clause-fits : goal.returns-clause-fits
returns-clause-fits c = planned_fits
