use Rattle.std.proofs.Common.{rules}
use Rattle.cpu_state.proofs.width.Width.bytes.Goals as goal

pub returns-in-W16 : goal.returns-in-W16
returns-in-W16 c = search rules
