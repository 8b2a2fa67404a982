use Rattle.std.proofs.Common.{rules}
use Rattle.pit_8254.proofs.counter.out_after.Goals as goal

pub returns-in-TerminalCount : goal.returns-in-TerminalCount
returns-in-TerminalCount c = search rules
