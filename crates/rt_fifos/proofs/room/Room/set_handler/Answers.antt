use Rattle.std.proofs.Common.{rules}
use Rattle.rt_fifos.proofs.room.Room.set_handler.Goals as goal

pub returns-clause-room : goal.returns-clause-room
returns-clause-room c = search rules

pub invariant_of-self : goal.invariant_of-self
invariant_of-self c = search rules
