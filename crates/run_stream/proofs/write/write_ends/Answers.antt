use Rattle.std.proofs.Common.{take}
use Rattle.run_stream.proofs.Streams.{text-both, text-guest}
use Rattle.run_stream.proofs.write.write_ends.Goals as goal

pub returns-in-Guest : goal.returns-in-Guest
returns-in-Guest g c = rw (c.in-Guest.is, ← text-guest c.args.tick (take 1 c.args.ends.now.g)) c.write_half.ensures

pub returns-in-Both : goal.returns-in-Both
returns-in-Both g c = rw (c.in-Both.is, ← text-both c.args.tick c.args.ends.now.r c.args.ends.now.g) c.write_both.ensures

pub returns-in-WithHardware : goal.returns-in-WithHardware
returns-in-WithHardware g c = rw (c.in-WithHardware.is, ← text-both c.args.tick c.args.ends.now.r c.args.ends.now.g) c.write_both-in-WithHardware.ensures
