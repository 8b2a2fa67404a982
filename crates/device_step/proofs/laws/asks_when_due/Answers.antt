use Rattle.device_step.proofs.Dividing.{asks}
use Rattle.device_step.proofs.laws.asks_when_due.Goals as goal

pub returns : goal.returns
returns c = asks
