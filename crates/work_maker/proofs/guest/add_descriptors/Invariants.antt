use Rattle.std.proofs.Common.{◌≡◌, ◌++◌, ◌-◌}
use Rattle.work_maker.specs.Guest.{descriptor, times}
use Rattle.work_maker.proofs.guest.add_descriptors.Given as goal

abbrev pub invariant-loop : goal.invariant-loop
invariant-loop l = l.bytes.items ++ times (16 - l.counter) descriptor ≡ l.initial.bytes.items ++ times 16 descriptor
