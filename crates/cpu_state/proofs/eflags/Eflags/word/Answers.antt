use Rattle.std.proofs.Common.{rules}
use Rattle.cpu_state.proofs.eflags.Eflags.word.Goals as goal

pub returns : goal.returns
returns c = search rules
