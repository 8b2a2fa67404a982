use Rattle.std.proofs.Common.{rules}
use Rattle.guest_step.proofs.entries.line_to_enter.Goals as goal

pub returns-then-open-clause-line : goal.returns-then-open-clause-line
returns-then-open-clause-line c = search rules
