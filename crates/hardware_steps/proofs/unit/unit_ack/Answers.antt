use Rattle.std.proofs.Common.{rules}
use Rattle.hardware_steps.proofs.unit.unit_ack.Goals as goal

pub returns-in-Some-clause-acks : goal.returns-in-Some-clause-acks
returns-in-Some-clause-acks c = search rules
