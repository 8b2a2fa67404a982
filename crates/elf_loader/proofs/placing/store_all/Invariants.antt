use Rattle.std.proofs.Common.{◌≡◌, drop}
use Rattle.flat_memory.specs.Side.{side_at}
use Rattle.elf_loader.specs.Place.{with_segments}
use Rattle.elf_loader.proofs.placing.store_all.Given as goal

abbrev pub invariant-loop-segment : goal.invariant-loop-segment
invariant-loop-segment l =
    with_segments (side_at l.first l.bytes) (drop l.segment-index l.segments) ≡ with_segments (side_at l.first l.initial.bytes) l.segments
