use Rattle.std.proofs.Common.{rules}
use Rattle.module_gates.proofs.ranges.range_admission.Goals as goal

pub returns-in-Some-clause-admission : goal.returns-in-Some-clause-admission
returns-in-Some-clause-admission c = search rules
