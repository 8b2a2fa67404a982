use Rattle.std.proofs.Common.{◌≡◌, drop}
use Rattle.port_board.specs.Board.{AreEvents, events_done}
use Rattle.port_board.proofs.board.Board.events.Given as goal

-- the events that are left lead to where all lead
abbrev pub invariant-loop-event : goal.invariant-loop-event
invariant-loop-event l = record {
  are : AreEvents (drop l.event-index l.events);
  rest : events_done (drop l.event-index l.events) (record { board = l.self; lines = l.lines }) ≡ events_done l.events (record { board = l.fn.self; lines = l.fn.lines });
}
