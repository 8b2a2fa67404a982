use Rattle.port_board.proofs.DeviceSteps.{steps_devices as the_law}
use Rattle.port_board.proofs.laws.device_steps.Goals as goal

pub returns : goal.returns
returns c = the_law
