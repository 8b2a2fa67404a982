use Rattle.std.proofs.Common.{rules}
use Rattle.breach_monitor.proofs.buses.GuestPortsPortOwner.owner.Goals as goal

pub returns : goal.returns
returns c = search rules
