use Rattle.std.proofs.Common.{rules}
use Rattle.rt_core.specs.View.{seen}
use Rattle.rt_core.proofs.Counts.{ends_are}
use Rattle.rt_core.proofs.machine.Machine.end.Goals as goal

pub returns-clause-guest : goal.returns-clause-guest
returns-clause-guest c = search rules

pub returns-clause-real_time : goal.returns-clause-real_time
returns-clause-real_time c = rw (← c.self.view_is, ← ends_are (seen c.self.inside)) (rw (← c.real_time_bytes.ensures) c.real_time_ends.ensures)
