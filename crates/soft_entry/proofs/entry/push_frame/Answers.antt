use Rattle.std.proofs.Common.{rules}
use Rattle.soft_entry.proofs.entry.push_frame.Goals as goal

pub returns-clause-stored : goal.returns-clause-stored
returns-clause-stored c = search rules
