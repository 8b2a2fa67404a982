use Rattle.std.proofs.Common.{◌≡◌, ◌+◌, ◌-◌, ◌*◌, ◌++◌, length, None}
use Rattle.elf_loader.specs.File.{headers_from, first_fault, segments_of}
use Rattle.elf_loader.proofs.read.segments.Given as goal

abbrev pub invariant-loop-index : goal.invariant-loop-index
invariant-loop-index l = let left = headers_from (l.table + 32 * l.index) (l.count - l.index) l.bytes in
    (first_fault (length l.bytes) left ≡ None) × (l.segments ++ segments_of l.bytes left ≡ segments_of l.bytes (headers_from l.table l.count l.bytes))
