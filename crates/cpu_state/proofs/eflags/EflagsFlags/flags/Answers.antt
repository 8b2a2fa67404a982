use Rattle.std.proofs.Common.{refl}
use Rattle.cpu_state.proofs.eflags.EflagsFlags.flags.Goals as goal

pub returns-clause-named : goal.returns-clause-named
returns-clause-named c = refl

pub returns-clause-bits : goal.returns-clause-bits
returns-clause-bits c = refl
