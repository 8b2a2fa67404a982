use Rattle.std.proofs.Common.{arith}
use Rattle.std.proofs.lemmas.List.Elements.{All-get_or}
use Rattle.flat_memory.specs.Side.{side_at}
use Rattle.elf_loader.specs.Place.{FitsSize}
use Rattle.elf_loader.proofs.Placed.{from_at, to_at}
use Rattle.elf_loader.proofs.placing.store_all.Goals as goal

pub store-requires : goal.store-requires
store-requires c =
    let from = from_at (side_at c.args.first c.args.bytes.now) c.args.segments.now c.loop-segment.segment-index _ c.segment-item.result c.loop-segment-test.true c.segment-item.is c.requires.inside in
    let to = to_at (side_at c.args.first c.args.bytes.now) c.args.segments.now c.loop-segment.segment-index _ c.segment-item.result c.loop-segment-test.true c.segment-item.is c.requires.inside in
    record {
      fits = rw c.segment-item.is (All-get_or FitsSize c.args.segments.now c.loop-segment.segment-index _ c.loop-segment-test.true c.requires.fits);
      from = from;
      to = λ some. let within = to some in omega arith;
    }
