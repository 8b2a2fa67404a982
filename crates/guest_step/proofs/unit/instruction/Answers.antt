use Rattle.std.proofs.Common.{rules, ap, refl}
use Rattle.breach_monitor.specs.declared.guest.GuestUnit.TheVariants.{Enter, Gate}
use Rattle.port_map.specs.declared.com_port.ComPort.TheVariants.{Com1}
use Rattle.trace_lines.specs.TickLines.{TickLines}
use Rattle.bare_machine.specs.Unit.{int_entry, gate}
use Rattle.guest_step.specs.Leaves.{parts, bare_marked, com1_of}
use Rattle.guest_step.proofs.Outcomes.{leaves_alone, leaves_as, leaves_there, instruction_by, begins_there}
use Rattle.guest_step.proofs.Boards.{access_leaves, board_stays}
use Rattle.guest_step.proofs.unit.instruction.Goals as goal

pub returns-in-Next-clause-board : goal.returns-in-Next-clause-board
returns-in-Next-clause-board c =
    let b = c.args.board.now in
    let access = c.perform.ensures.after in
    let edges = c.unit_edges.ensures in
    access_leaves b c.perform.new.board c.unit_edges.new.board c.args.lines.now c.unit_edges.new.lines access edges.after edges.board edges.edges
    (λ now last. edges.hardware now last Com1 (com1_of c.perform.new.board) b c.requires.board c.requires.taken access)

pub returns-in-Enter-clause-leaves : goal.returns-in-Enter-clause-leaves
returns-in-Enter-clause-leaves c =
    let same = c.in-Enter.ensures.unchanged (search rules) in
    let board = c.args.board.now in
    let old = parts c.args.memory.now c.args.registers.now c.args.guest.now c.args.lines.now in
    let b = bare_marked old (com1_of board) in
    leaves_there _ board c.perform.new.board _ _ old _ same.2
    (leaves_as _ _ _ _ _ _ _ _ (instruction_by c.args.now b (Enter c.in-Enter.vector c.in-Enter.push) c.in-Enter.ensures.performs.answer)
    (begins_there (int_entry c.in-Enter.vector c.in-Enter.push) _ _ _ _ (com1_of board) c.args.guest.now _ _ _ _ _ same.0 same.1
    (leaves_alone _ _ _ _ _ _ _ refl (c.enter_vector.ensures.leaves (com1_of board)))))

pub returns-in-Enter-clause-board : goal.returns-in-Enter-clause-board
returns-in-Enter-clause-board c =
    let same = c.in-Enter.ensures.unchanged (search rules) in
    board_stays _ _ _ _ c.requires.board c.requires.taken same.2 c.enter_vector.ensures.edges

pub returns-in-Gate-clause-leaves : goal.returns-in-Gate-clause-leaves
returns-in-Gate-clause-leaves c =
    let same = c.in-Gate.ensures.unchanged (search rules) in
    let board = c.args.board.now in
    let old = parts c.args.memory.now c.args.registers.now c.args.guest.now c.args.lines.now in
    let b = bare_marked old (com1_of board) in
    leaves_there _ board c.perform.new.board _ _ old _ same.2
    (leaves_as _ _ _ _ _ _ _ _ (instruction_by c.args.now b (Gate c.in-Gate.number c.in-Gate.next) c.in-Gate.ensures.performs.answer)
    (begins_there (gate c.args.now c.in-Gate.number c.in-Gate.next) _ _ _ _ (com1_of board) c.args.guest.now _ _ _ _ _ same.0 same.1
    (c.perform_gate.ensures.leaves (com1_of board))))

pub returns-in-Gate-clause-board : goal.returns-in-Gate-clause-board
returns-in-Gate-clause-board c =
    let same = c.in-Gate.ensures.unchanged (search rules) in
    board_stays _ _ _ _ c.requires.board c.requires.taken same.2 c.perform_gate.ensures.edges

pub returns-in-Breach-clause-board : goal.returns-in-Breach-clause-board
returns-in-Breach-clause-board c =
    let same = c.in-Breach.ensures.unchanged (search rules) in
    board_stays _ _ _ _ c.requires.board c.requires.taken same.2 (ap (λ (l : TickLines). l.h) c.show_breach.ensures)
