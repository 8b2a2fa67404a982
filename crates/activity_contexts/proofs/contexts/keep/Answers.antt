use Rattle.std.proofs.Common.{rules}
use Rattle.activity_contexts.proofs.contexts.keep.Goals as goal

pub returns-in-Some-Thread-clause-threads : goal.returns-in-Some-Thread-clause-threads
returns-in-Some-Thread-clause-threads c = search rules
