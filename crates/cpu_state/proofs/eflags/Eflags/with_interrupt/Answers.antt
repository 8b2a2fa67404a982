use Rattle.std.proofs.Common.{rules}
use Rattle.cpu_state.proofs.eflags.Eflags.with_interrupt.Goals as goal

pub returns : goal.returns
returns c = search rules
