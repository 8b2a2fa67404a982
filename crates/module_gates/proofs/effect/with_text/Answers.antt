use Rattle.std.proofs.Common.{rules}
use Rattle.module_gates.proofs.effect.with_text.Goals as goal

pub returns-in-Print-clause-printed : goal.returns-in-Print-clause-printed
returns-in-Print-clause-printed c = search rules
