use Rattle.run_stream.proofs.Streams.{text-all, text-both, text-guest}
use Rattle.run_report.proofs.Absorbing.{absorbs_behind}
use Rattle.run_report.proofs.sum.absorb_tick.Goals as goal

pub returns-in-Guest : goal.returns-in-Guest
returns-in-Guest c = rw (c.in-Guest.is, ← text-guest c.args.tick c.args.lines.now.g, ← c.g.ensures) c.absorb_half.ensures

pub returns-in-Both : goal.returns-in-Both
returns-in-Both c =
    rw (c.in-Both.is, ← text-both c.args.tick c.args.lines.now.r c.args.lines.now.g, ← c.r.ensures, ← c.g-in-Both.ensures)
    (absorbs_behind _ _ _ _ _ c.absorb_half-in-Both.ensures c.absorb_half-in-Both-2.ensures)

pub returns-in-WithHardware : goal.returns-in-WithHardware
returns-in-WithHardware c =
    rw (c.in-WithHardware.is, ← text-all c.args.tick c.args.lines.now.r c.args.lines.now.h c.args.lines.now.g, ← c.r-in-WithHardware.ensures, ← c.h.ensures, ← c.g-in-WithHardware.ensures)
    (absorbs_behind _ _ _ _ _ c.absorb_half-in-WithHardware.ensures (absorbs_behind _ _ _ _ _ c.absorb_half-in-WithHardware-2.ensures c.absorb_half-in-WithHardware-3.ensures))
