use Rattle.machine_state.proofs.Points.{ready_is_live as law}
use Rattle.machine_state.proofs.ready_is_live.Goals as goal

pub returns : goal.returns
returns c = law
