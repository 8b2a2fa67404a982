use Rattle.run_stream.proofs.Streams.{text-all, text-both, text-guest}
use Rattle.run_stream.proofs.write.write_tick.Goals as goal

pub returns-in-Guest : goal.returns-in-Guest
returns-in-Guest g c = rw (c.in-Guest.is, ← text-guest c.args.tick c.args.lines.now.g, ← c.g.ensures) c.write_half.ensures

pub returns-in-Both : goal.returns-in-Both
returns-in-Both g c = rw (c.in-Both.is, ← text-both c.args.tick c.args.lines.now.r c.args.lines.now.g, ← c.r.ensures, ← c.g-in-Both.ensures) c.write_both.ensures

pub returns-in-WithHardware : goal.returns-in-WithHardware
returns-in-WithHardware g c =
    rw (c.in-WithHardware.is, ← text-all c.args.tick c.args.lines.now.r c.args.lines.now.h c.args.lines.now.g, ← c.r-in-WithHardware.ensures, ← c.h.ensures, ← c.g-in-WithHardware.ensures) c.write_all.ensures
