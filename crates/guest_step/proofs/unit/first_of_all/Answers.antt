use Rattle.std.proofs.Common.{◌≡◌, rules, refl}
use Rattle.bare_machine.specs.Unit.{guest_unit, asked_entry, instruction}
use Rattle.guest_step.specs.Leaves.{parts, bare_marked, com1_of}
use Rattle.guest_step.proofs.Boards.{board_stays}
use Rattle.guest_step.proofs.Outcomes.{leaves_alone, leaves_as, leaves_there}
use Rattle.guest_step.proofs.unit.first_of_all.Goals as goal

pub returns-then-eq-clause-board : goal.returns-then-eq-clause-board
returns-then-eq-clause-board c = board_stays _ _ _ _ c.requires.board c.requires.taken refl refl

pub returns-in-Some-clause-leaves : goal.returns-in-Some-clause-leaves
unfolding guest_unit
returns-in-Some-clause-leaves c =
    let board = c.args.board.now in
    let old = parts c.args.memory.now c.args.registers.now c.args.guest.now c.args.lines.now in
    let b = bare_marked old (com1_of board) in
    let entered : guest_unit c.args.now b ≡ asked_entry c.in-Some.line b = search rules in
    leaves_there _ board board _ _ old _ refl
    (leaves_as _ _ _ _ _ _ _ _ entered (leaves_alone _ _ _ _ _ _ _ refl (c.enter_line.ensures.leaves (com1_of board))))

pub returns-in-Some-clause-board : goal.returns-in-Some-clause-board
returns-in-Some-clause-board c = board_stays _ _ _ _ c.requires.board c.requires.taken refl c.enter_line.ensures.edges

pub returns-then-eq-2-clause-board : goal.returns-then-eq-2-clause-board
returns-then-eq-2-clause-board c = board_stays _ _ _ _ c.requires.board c.requires.taken refl refl

pub instruction-requires-clause-runs : goal.instruction-requires-clause-runs
instruction-requires-clause-runs c = search rules

pub returns-clause-leaves : goal.returns-clause-leaves
unfolding guest_unit
returns-clause-leaves c =
    let b = bare_marked (parts c.args.memory.now c.args.registers.now c.args.guest.now c.args.lines.now) (com1_of c.args.board.now) in
    let performed : guest_unit c.args.now b ≡ instruction c.args.now b = search rules in
    leaves_as _ _ _ _ _ _ _ _ performed c.instruction.ensures.leaves
