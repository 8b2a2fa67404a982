use Rattle.std.proofs.Common.{rules}
use Rattle.work_maker.proofs.draws.Draws.thread.Goals as goal

pub returns-clause-drawn : goal.returns-clause-drawn
returns-clause-drawn c = search rules
