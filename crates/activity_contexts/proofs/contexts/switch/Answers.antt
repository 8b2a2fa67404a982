use Rattle.std.proofs.Common.{rules}
use Rattle.activity_contexts.proofs.contexts.switch.Goals as goal

pub returns-clause-threads : goal.returns-clause-threads
returns-clause-threads c = search rules

pub returns-clause-guest : goal.returns-clause-guest
returns-clause-guest c = search rules
