use Rattle.std.proofs.Common.{◌∙◌, sym, ap, length}
use Rattle.elf_loader.specs.File.{first_fault}
use Rattle.elf_loader.proofs.Headers.{headers-step, fault-later}
use Rattle.elf_loader.proofs.read.check_headers.Goals as goal

pub loop-index-preserved : goal.loop-index-preserved
loop-index-preserved c =
    let step = headers-step c.args.table c.args.count c.loop-index.index c.args.bytes.now c.loop-index-test.true in
    let good = rw c.header_of-header.ensures at c.in_ok-check_header.ensures in
    sym (fault-later _ _ _ good) ∙ (ap (first_fault (length c.args.bytes.now)) (sym step) ∙ c.loop-index.invariant)
