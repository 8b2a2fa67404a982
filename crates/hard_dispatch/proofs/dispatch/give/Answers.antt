use Rattle.std.proofs.Common.{rules}
use Rattle.hard_dispatch.proofs.dispatch.give.Goals as goal

pub mark-requires : goal.mark-requires
mark-requires c = cc

pub returns-then-is_nobodys-clause-guest : goal.returns-then-is_nobodys-clause-guest
returns-then-is_nobodys-clause-guest c = search rules

pub returns-else-is_nobodys-clause-guest : goal.returns-else-is_nobodys-clause-guest
returns-else-is_nobodys-clause-guest c = search rules
