use Rattle.std.proofs.Common.{rules}
use Rattle.schedule_steps.proofs.choice.running.Goals as goal

pub returns-in-Some-Irq : goal.returns-in-Some-Irq
returns-in-Some-Irq c = search rules
