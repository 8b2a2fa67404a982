use Rattle.machine_state.proofs.Dues.{next_due_known as law}
use Rattle.machine_state.proofs.knows_next_due.Goals as goal

pub returns : goal.returns
returns c = law
