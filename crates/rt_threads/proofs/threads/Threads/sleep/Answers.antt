use Rattle.std.proofs.Common.{rules}
use Rattle.rt_threads.proofs.threads.Threads.sleep.Goals as goal

pub returns-else-not-fits-clause-threads : goal.returns-else-not-fits-clause-threads
returns-else-not-fits-clause-threads c = search rules
