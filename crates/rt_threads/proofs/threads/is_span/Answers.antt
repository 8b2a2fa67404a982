use Rattle.std.proofs.Common.{rules}
use Rattle.rt_threads.proofs.threads.is_span.Goals as goal

pub returns-then-ticks-ge1 : goal.returns-then-ticks-ge1
returns-then-ticks-ge1 c = search rules
