use Rattle.std.proofs.Common.{◌<◌, arith}
use Rattle.std.proofs.lemmas.Bool.Decides.{nat_tests}
use Rattle.flat_memory.specs.Side.{side_at}
use Rattle.elf_loader.proofs.Placed.{with_segment_written}
use Rattle.elf_loader.proofs.placing.store.Goals as goal

pub returns : goal.returns
returns c =
    let some : 0 < c.args.segment.now.size = grind (arith, nat_tests) in
    let written = rw (c.write.ensures, c.as_slice-content.ensures) at c.clear.ensures in
    with_segment_written (side_at c.args.first c.args.bytes.now) c.args.segment.now c.clear.new.bytes (c.requires.from some) (c.requires.to some) c.requires.fits written
