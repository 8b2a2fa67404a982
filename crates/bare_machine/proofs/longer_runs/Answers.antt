use Rattle.bare_machine.specs.Run.{bare_lines}
use Rattle.run_lines.proofs.Longer.{longer}
use Rattle.bare_machine.proofs.longer_runs.Goals as goal

pub returns : goal.returns
returns c = λ start script r n m. longer (bare_lines start script r) n m
