use Rattle.std.proofs.Common.{rules}
use Rattle.rt_threads.proofs.threads.Threads.suspend.Goals as goal

pub returns-in-Some-clause-threads : goal.returns-in-Some-clause-threads
returns-in-Some-clause-threads c = search rules
