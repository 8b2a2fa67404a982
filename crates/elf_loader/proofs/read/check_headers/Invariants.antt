use Rattle.std.proofs.Common.{◌≡◌, ◌+◌, ◌-◌, ◌*◌, length}
use Rattle.elf_loader.specs.File.{headers_from, first_fault}
use Rattle.elf_loader.proofs.read.check_headers.Given as goal

abbrev pub invariant-loop-index : goal.invariant-loop-index
invariant-loop-index l = first_fault (length l.bytes) (headers_from (l.table + 32 * l.index) (l.count - l.index) l.bytes)
    ≡ first_fault (length l.bytes) (headers_from l.table l.count l.bytes)
