use Rattle.pit_8254.proofs.Runs.{follows}
use Rattle.pit_8254.proofs.laws.follows_pulses.Goals as goal

pub returns : goal.returns
returns c = follows
