use Rattle.std.proofs.Common.{rules}
use Rattle.hard_dispatch.proofs.service.finish.Goals as goal

pub returns-else-line-lt-CHIP_LINES-clause-ended : goal.returns-else-line-lt-CHIP_LINES-clause-ended
returns-else-line-lt-CHIP_LINES-clause-ended c = search rules
