use Rattle.std.proofs.Common.{◌∙◌, ap, Some}
use Rattle.machine_state.specs.Parts.{MachineParts}
use Rattle.rt_core.proofs.UnitOf.{activities_as, guests_as}
use Rattle.rt_core.proofs.steps.unit.Goals as goal

pub returns-in-None-clause-steps : goal.returns-in-None-clause-steps
returns-in-None-clause-steps c = λ m e running.
    let here : MachineParts = record m { memory = c.args.memory.now; processor = c.args.processor.now; board = c.args.board.now; all = c.args.all.now; guest = c.args.guest.now } in
    guests_as c.args.now c.args.who _ _ _ _ _ c.in-None.ensures c.requires.on (c.guest_unit.ensures.step here e (c.requires.on ∙ ap Some c.in-None.ensures) running)

pub returns-in-Some-clause-steps : goal.returns-in-Some-clause-steps
returns-in-Some-clause-steps c = λ m e running.
    let here : MachineParts = record m { memory = c.args.memory.now; processor = c.args.processor.now; board = c.args.board.now; all = c.args.all.now; guest = c.args.guest.now } in
    activities_as c.args.now c.args.who c.in-Some.caller _ _ _ _ _ c.in-Some.ensures (c.activity_unit.ensures.step here e running)
