use Rattle.std.proofs.Common.{rules}
use Rattle.hard_dispatch.proofs.service.mask_all_but.Goals as goal

pub returns-else-line-lt-CHIP_LINES-clause-masked : goal.returns-else-line-lt-CHIP_LINES-clause-masked
returns-else-line-lt-CHIP_LINES-clause-masked c = search rules
