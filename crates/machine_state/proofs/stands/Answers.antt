use Rattle.machine_state.proofs.Points.{points as law}
use Rattle.machine_state.proofs.stands.Goals as goal

pub returns : goal.returns
returns c = law
