use Rattle.bare_machine.specs.Run.{bare_lines}
use Rattle.priority_schedule.specs.Run.{real_lines}
use Rattle.run_lines.proofs.Longer.{longer}
use Rattle.schedule_laws.proofs.LongerLemmas.{longer_runs}
use Rattle.schedule_laws.proofs.longer_runs.Goals as goal

pub returns-clause-real : goal.returns-clause-real
returns-clause-real c = λ start script calls n m. longer (real_lines start script calls) n m

pub returns-clause-bare : goal.returns-clause-bare
returns-clause-bare c = λ start script r n m. longer (bare_lines start script r) n m

pub returns-clause-both : goal.returns-clause-both
returns-clause-both c = longer_runs
