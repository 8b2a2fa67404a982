use Rattle.std.proofs.Common.{rules}
use Rattle.rt_fifos.proofs.room.Room.put.Goals as goal

pub returns-then-bytes-terms-clause-result : goal.returns-then-bytes-terms-clause-result
returns-then-bytes-terms-clause-result c = search rules

pub returns-then-bytes-terms-clause-room : goal.returns-then-bytes-terms-clause-room
returns-then-bytes-terms-clause-room c = search rules
