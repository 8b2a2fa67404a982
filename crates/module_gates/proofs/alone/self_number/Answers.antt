use Rattle.std.proofs.Common.{rules}
use Rattle.module_gates.proofs.alone.self_number.Goals as goal

pub returns-in-Thread : goal.returns-in-Thread
returns-in-Thread c = search rules
