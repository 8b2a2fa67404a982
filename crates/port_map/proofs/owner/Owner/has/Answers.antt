use Rattle.std.proofs.Common.{rules}
use Rattle.port_map.proofs.owner.Owner.has.Goals as goal

pub returns-in_default : goal.returns-in_default
returns-in_default c = search rules
