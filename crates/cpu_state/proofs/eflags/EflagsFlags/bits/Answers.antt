use Rattle.std.proofs.Common.{rules}
use Rattle.cpu_state.proofs.eflags.EflagsFlags.bits.Goals as goal

pub returns : goal.returns
returns c = search rules
