use Rattle.std.proofs.Common.{rules}
use Rattle.rt_threads.proofs.threads.Threads.periodic.Goals as goal

pub returns-else-not-planned-clause-threads : goal.returns-else-not-planned-clause-threads
returns-else-not-planned-clause-threads c = search rules
