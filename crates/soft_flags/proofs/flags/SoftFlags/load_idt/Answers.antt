use Rattle.std.proofs.Common.{rules}
use Rattle.soft_flags.proofs.flags.SoftFlags.load_idt.Goals as goal

pub returns-clause-after : goal.returns-clause-after
returns-clause-after c = search rules
