use Rattle.std.proofs.Common.{rules}
use Rattle.activity_contexts.proofs.contexts.bring.Goals as goal

pub returns-in-Guest-clause-guest : goal.returns-in-Guest-clause-guest
returns-in-Guest-clause-guest c = search rules
