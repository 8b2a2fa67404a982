use Rattle.std.proofs.Common.{arith}
use Rattle.flat_memory.specs.Side.{side_of}
use Rattle.elf_loader.proofs.Placed.{to_at}
use Rattle.elf_loader.proofs.placing.take_all.Goals as goal

pub span-requires : goal.span-requires
span-requires c some =
    let within = to_at (side_of c.args.side.now) c.args.segments.now c.loop-segment.segment-index _ c.segment-item.result c.loop-segment-test.true c.segment-item.is c.requires.inside some in
    let small = c.requires.small in
    omega arith
