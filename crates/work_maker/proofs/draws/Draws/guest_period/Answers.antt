use Rattle.std.proofs.Common.{rules}
use Rattle.work_maker.proofs.draws.Draws.guest_period.Goals as goal

pub returns-clause-drawn : goal.returns-clause-drawn
returns-clause-drawn c = search rules

pub returns-clause-next : goal.returns-clause-next
returns-clause-next c = search rules
