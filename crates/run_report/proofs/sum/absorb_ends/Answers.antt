use Rattle.run_stream.proofs.Streams.{text-both}
use Rattle.run_report.proofs.Absorbing.{absorbs_behind}
use Rattle.run_report.proofs.sum.absorb_ends.Goals as goal

pub returns-in-Both : goal.returns-in-Both
returns-in-Both c =
    rw (c.in-Both.is, ← text-both c.args.tick c.args.ends.now.r c.args.ends.now.g) (absorbs_behind _ _ _ _ _ c.absorb_half-in-Both.ensures c.absorb_half-in-Both-2.ensures)

pub returns-in-WithHardware : goal.returns-in-WithHardware
returns-in-WithHardware c =
    rw (c.in-WithHardware.is, ← text-both c.args.tick c.args.ends.now.r c.args.ends.now.g)
    (absorbs_behind _ _ _ _ _ c.absorb_half-in-WithHardware.ensures c.absorb_half-in-WithHardware-2.ensures)
