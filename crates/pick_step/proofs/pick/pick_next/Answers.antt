use Rattle.pick_step.proofs.Quiet.{quiet_step}
use Rattle.pick_step.proofs.pick.pick_next.Goals as goal

pub returns-then-guest_goes_on-clause-step : goal.returns-then-guest_goes_on-clause-step
returns-then-guest_goes_on-clause-step c = λ m drained run.
    quiet_step c.args.draining
    (record m { processor = c.args.processor.now; all = c.args.all.now; memory = c.args.memory.now; modules = c.args.inits.now })
    c.args.lines.now c.requires.agrees drained run
    (c.guest_goes_on.ensures.on c.if-guest_goes_on.true) (c.guest_goes_on.ensures.quiet c.if-guest_goes_on.true)
