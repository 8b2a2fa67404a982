use Rattle.std.proofs.Common.{rules}
use Rattle.guest_step.proofs.entries.begin_handler.Goals as goal

pub returns : goal.returns
returns c = search rules
