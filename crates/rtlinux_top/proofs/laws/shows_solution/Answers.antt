use Rattle.rtlinux_top.proofs.Shown.{shows, no_other, shows_output}
use Rattle.rtlinux_top.proofs.laws.shows_solution.Goals as goal

pub returns-clause-solution : goal.returns-clause-solution
returns-clause-solution c = shows

pub returns-clause-no_other : goal.returns-clause-no_other
returns-clause-no_other c = no_other

pub returns-clause-output : goal.returns-clause-output
returns-clause-output c = shows_output
