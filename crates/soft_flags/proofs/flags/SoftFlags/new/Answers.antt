use Rattle.std.proofs.Common.{rules}
use Rattle.soft_flags.proofs.flags.SoftFlags.new.Goals as goal

pub returns : goal.returns
returns c = search rules
