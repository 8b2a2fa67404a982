use Rattle.std.proofs.Common.{rules}
use Rattle.pic_8259.proofs.Pairs.{acknowledged_kept}
use Rattle.pic_8259.proofs.pair.Pair.acknowledge.Goals as goal

pub invariant_of-self : goal.invariant_of-self
invariant_of-self c = acknowledged_kept c.self.inside.master c.self.inside.slave c.acknowledge.new.self c.in_ok-line.line c.self.invariant c.acknowledge.ensures

pub returns-then-line-lt-CHIP_LINES-clause-kept : goal.returns-then-line-lt-CHIP_LINES-clause-kept
returns-then-line-lt-CHIP_LINES-clause-kept c = acknowledged_kept c.self.inside.master c.self.inside.slave c.acknowledge.new.self c.in_ok-line.line c.self.invariant c.acknowledge.ensures

pub returns-else-line-lt-CHIP_LINES-clause-after : goal.returns-else-line-lt-CHIP_LINES-clause-after
returns-else-line-lt-CHIP_LINES-clause-after c = search rules
