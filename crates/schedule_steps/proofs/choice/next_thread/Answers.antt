use Rattle.std.proofs.Common.{◌∙◌, sym}
use Rattle.schedule_steps.proofs.Picking.{first_ready}
use Rattle.schedule_steps.proofs.choice.next_thread.Goals as goal

pub returns-in-Some-clause-runs : goal.returns-in-Some-clause-runs
returns-in-Some-clause-runs c = first_ready c.args.all.now c.in-Some.id c.requires (sym c.first.ensures.first ∙ c.in-Some.is)
