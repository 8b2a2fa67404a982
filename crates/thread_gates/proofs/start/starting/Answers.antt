use Rattle.std.proofs.Common.{rules}
use Rattle.cpu_state.specs.Registers.{starting}
use Rattle.thread_gates.proofs.start.starting.Goals as goal

pub returns : goal.returns
unfolding starting
returns c = search rules
