use Rattle.schedule_steps.proofs.Live.{picks_kept, releases_kept}
use Rattle.schedule_steps.proofs.steps_keep_contexts.Goals as goal

pub returns-clause-releases : goal.returns-clause-releases
returns-clause-releases c = releases_kept

pub returns-clause-picks : goal.returns-clause-picks
returns-clause-picks c = picks_kept
