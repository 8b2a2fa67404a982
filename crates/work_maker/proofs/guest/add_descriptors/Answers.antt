use Rattle.std.proofs.Common.{◌∙◌, ◌+◌, ◌-◌, sym, ap, ◌++◌, append_assoc}
use Rattle.work_maker.specs.Guest.{descriptor, times}
use Rattle.work_maker.proofs.Steps.{times_step}
use Rattle.work_maker.proofs.guest.add_descriptors.Goals as goal

pub loop-preserved : goal.loop-preserved
loop-preserved c =
    let step = times_step 16 c.loop.counter descriptor c.loop-test.true in
    let grouped = append_assoc c.loop.bytes.items descriptor (times (16 - (c.loop.counter + 1)) descriptor) in
    rw c.in_ok-extend_from_slice.ensures.items (grouped ∙ (ap (λ rest. c.loop.bytes.items ++ rest) (sym step) ∙ c.loop.invariant))
