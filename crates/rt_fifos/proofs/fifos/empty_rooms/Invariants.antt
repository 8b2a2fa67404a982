use Rattle.std.proofs.Common.{◌≡◌, replicate, None}
use Rattle.rt_fifos.proofs.fifos.empty_rooms.Given as goal

abbrev pub invariant-loop-n : goal.invariant-loop-n
invariant-loop-n l = l.rooms.items ≡ replicate l._n None
