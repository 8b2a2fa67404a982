use Rattle.std.proofs.Common.{length}
use Rattle.host_files.proofs.out_sink.write_whole.Given as goal

-- each write takes a byte at least
abbrev pub decreases-pieces : goal.decreases-pieces
decreases-pieces g l = length l.rest
