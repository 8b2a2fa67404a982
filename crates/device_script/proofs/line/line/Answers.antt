use Rattle.std.proofs.Common.{rules}
use Rattle.device_script.proofs.line.line.Goals as goal

pub returns-in-len1 : goal.returns-in-len1
returns-in-len1 c = search rules
