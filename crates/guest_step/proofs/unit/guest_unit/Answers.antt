use Rattle.guest_step.specs.Leaves.{parts}
use Rattle.guest_step.proofs.Steps.{step_done}
use Rattle.guest_step.proofs.unit.guest_unit.Goals as goal

pub returns-clause-step : goal.returns-clause-step
returns-clause-step c = λ m at on is.
    let done = c.first_of_all.ensures in
    step_done c.args.now m
    (parts c.args.memory.now c.args.registers.now c.args.guest.now c.args.lines.now)
    (parts c.first_of_all.new.memory c.first_of_all.new.registers c.first_of_all.new.guest c.first_of_all.new.lines)
    c.args.board.now c.first_of_all.new.board c.args.timeline.now c.first_of_all.new.timeline c.args.fifos.now c.first_of_all.new.fifos c.first_of_all.result
    at on c.requires.emptied c.requires.calm done.leaves done.board done.times is
