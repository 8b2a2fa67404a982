use Rattle.std.proofs.Common.{sym, ap, ◌∙◌, subst}
use Rattle.port_map.specs.declared.com_port.ComPort.TheVariants.{Com1}
use Rattle.port_board.specs.Board.{accessed}
use Rattle.hardware_steps.specs.HardwareOf.{IsBoard}
use Rattle.hardware_steps.proofs.Accesses.{keeps_board}
use Rattle.guest_step.specs.Leaves.{com1_of}
use Rattle.guest_step.proofs.Boards.{access_port}
use Rattle.guest_step.proofs.unit.perform.Goals as goal

pub returns-clause-com1 : goal.returns-clause-com1
returns-clause-com1 c = access_port c.args.board.now _ _ c.run_unit.ensures.board

pub returns-clause-after : goal.returns-clause-after
returns-clause-after c = c.run_unit.ensures.board ∙ ap (λ s. accessed Com1 s c.args.board.now) (sym (returns-clause-com1 c))

pub returns-clause-board : goal.returns-clause-board
returns-clause-board c =
    let b = c.args.board.now in
    let new = c.run_unit.new.board in
    subst IsBoard (sym (returns-clause-after c))
    (keeps_board Com1 (com1_of new) b (c.run_unit.ensures.sampled c.requires.sampled).com1 c.requires)
