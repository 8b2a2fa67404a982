use Rattle.activity_step.proofs.Performing.{performs_lent}
use Rattle.activity_step.proofs.performed.perform.Goals as goal

pub returns : goal.returns
returns c =
    performs_lent c.args.memory.now _ _ _ _ _ _ _ _ c.real_time_of_serial.ensures c.real_time_keeps_others.ensures.board
    c.access_keeps_board.ensures
    c.first_address-first.ensures c.real_time.ensures.lent c.real_time_unit_on.ensures.unit c.requires.board
