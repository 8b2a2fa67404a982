use Rattle.std.proofs.Common.{rules}
use Rattle.breach_monitor.proofs.guest.interrupted.Goals as goal

pub returns-else-vector-le-LAST_GATE : goal.returns-else-vector-le-LAST_GATE
returns-else-vector-le-LAST_GATE c = search rules
