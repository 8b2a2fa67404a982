use Rattle.std.proofs.Common.{rules}
use Rattle.breach_monitor.proofs.real_time.privileged_use.Goals as goal

pub returns-in-Hlt-clause-unit : goal.returns-in-Hlt-clause-unit
returns-in-Hlt-clause-unit c = search rules
