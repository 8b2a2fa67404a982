use Rattle.std.proofs.Common.{rules}
use Rattle.pic_8259.proofs.Pairs.{risen_kept}
use Rattle.pic_8259.proofs.pair.Pair.latch.Goals as goal

pub invariant_of-self : goal.invariant_of-self
invariant_of-self c = risen_kept c.self.inside.master c.self.inside.slave c.with_line8-self-inside.result c.args.line c.self.invariant c.if-line-eq-CASCADE.false (search rules) c.with_line8-self-inside.ensures

pub returns-then-line-lt-CHIP_LINES-clause-kept : goal.returns-then-line-lt-CHIP_LINES-clause-kept
returns-then-line-lt-CHIP_LINES-clause-kept c = risen_kept c.self.inside.master c.self.inside.slave c.with_line8-self-inside.result c.args.line c.self.invariant c.if-line-eq-CASCADE.false (search rules) c.with_line8-self-inside.ensures

pub returns-else-line-lt-CHIP_LINES-clause-latched : goal.returns-else-line-lt-CHIP_LINES-clause-latched
returns-else-line-lt-CHIP_LINES-clause-latched c = search rules
