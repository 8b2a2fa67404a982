use Rattle.std.proofs.Common.{rules}
use Rattle.cpu_state.proofs.registers.Registers.new.Goals as goal

pub returns : goal.returns
returns c = search rules
