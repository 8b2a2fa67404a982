use Rattle.std.proofs.Common.{rules}
use Rattle.breach_monitor.proofs.access.store.Goals as goal

pub returns-in-W32-clause-after : goal.returns-in-W32-clause-after
returns-in-W32-clause-after c = search rules
