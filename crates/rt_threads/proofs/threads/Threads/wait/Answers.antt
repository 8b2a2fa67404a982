use Rattle.std.proofs.Common.{rules}
use Rattle.rt_threads.proofs.threads.Threads.wait.Goals as goal

pub returns-else-thread-eq0-clause-threads : goal.returns-else-thread-eq0-clause-threads
returns-else-thread-eq0-clause-threads c = search rules
