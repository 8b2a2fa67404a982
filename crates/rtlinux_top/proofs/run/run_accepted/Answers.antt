use Rattle.std.proofs.Common.{subst, sym}
use Rattle.rtlinux_top.specs.Status.{HasRun}
use Rattle.rtlinux_top.proofs.Finished.{IsNoRefusal, has_run, no_refusal}
use Rattle.rtlinux_top.proofs.run.run_accepted.Goals as goal

pub returns-in-Ok-clause-dropped : goal.returns-in-Ok-clause-dropped
returns-in-Ok-clause-dropped g c = λ no. absurd (no (subst HasRun (sym c.status_after.ensures) (has_run c.in-Ok.finished.breach c.in-Ok.finished.fault)))

pub returns-in-Ok-clause-others : goal.returns-in-Ok-clause-others
returns-in-Ok-clause-others g c = subst IsNoRefusal (sym c.status_after.ensures) (no_refusal c.in-Ok.finished.breach c.in-Ok.finished.fault)
