use Rattle.std.proofs.Common.{◌∙◌}
use Rattle.elf_loader.proofs.Headers.{headers-step, none-bad, segments-more}
use Rattle.elf_loader.proofs.read.segments.Goals as goal

pub loop-index-preserved : goal.loop-index-preserved
loop-index-preserved c =
    let step = headers-step c.args.table c.args.count c.loop-index.index c.args.bytes.now c.loop-index-test.true in
    let kept = rw step at c.loop-index.invariant in
    let added = rw c.header_of-header.ensures at c.in_ok-add_segment.ensures in
    ((none-bad _ _ _ kept.0).1, rw added (segments-more c.args.bytes.now c.loop-index.segments _ _ ∙ kept.1))
