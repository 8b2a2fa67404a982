use Rattle.std.proofs.Common.{sym, ap, subst, ◌∙◌}
use Rattle.uart_16550.specs.SerialPort.{leaves}
use Rattle.port_board.specs.declared.board.Edges.{Edges}
use Rattle.trace_lines.specs.TickLines.{TickLines}
use Rattle.hardware_steps.specs.Steps.{board_stepped}
use Rattle.device_step.specs.Stepped.{DevicesStep}
use Rattle.device_step.proofs.Machines.{moves, whole, pushed, few_lines}
use Rattle.device_step.proofs.board_step.devices.Goals as goal

pub returns-clause-step : goal.returns-clause-step
returns-clause-step c = λ m is_next few run.
    let now = c.args.now in
    let events = c.args.events.now in
    let b = c.args.board.now in
    let after = c.step_devices-edges.new.board in
    let edges = c.step_devices-edges.result in
    let t = c.step_devices-edges.ensures in
    let h = c.step_devices-edges.new.lines.h in
    let lines = pushed c.args.lines.now c.step_devices-edges.new.lines c.push_com2.new.lines c.push_com1.new.lines
    edges.com1 edges.com2 (leaves b.com1) (leaves b.com2)
    c.requires.empty t.lines c.push_com2.ensures c.push_com1.ensures (ap (λ (e : Edges). e.com1) t.edges) (ap (λ (e : Edges). e.com2) t.edges) in
    subst (λ (l : TickLines). DevicesStep now events (record m { board = b }) (record m { board = after; ticks = now }) l) (sym lines)
    (whole now events m b after h is_next few c.requires.taken t.board run (moves events b after c.requires.events c.requires.board t.after)
    (t.hardware m.ticks m.last is_next ∙ ap (λ (l : TickLines). board_stepped m.ticks m.last events b after l.h) c.requires.empty))

pub returns-clause-few : goal.returns-clause-few
returns-clause-few c =
    let b = c.args.board.now in
    let edges = c.step_devices-edges.result in
    let t = c.step_devices-edges.ensures in
    let lines = pushed c.args.lines.now c.step_devices-edges.new.lines c.push_com2.new.lines c.push_com1.new.lines
    edges.com1 edges.com2 (leaves b.com1) (leaves b.com2)
    c.requires.empty t.lines c.push_com2.ensures c.push_com1.ensures (ap (λ (e : Edges). e.com1) t.edges) (ap (λ (e : Edges). e.com2) t.edges) in
    few_lines c.args.now c.args.events.now b c.step_devices-edges.new.board c.args.lines.now.h c.step_devices-edges.new.lines.h
    (leaves b.com1) (leaves b.com2) c.push_com1.new.lines c.requires.now t.hardware (ap (λ (l : TickLines). l.h) c.requires.empty) lines
