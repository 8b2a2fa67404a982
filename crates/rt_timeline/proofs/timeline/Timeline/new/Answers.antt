use Rattle.std.proofs.Common.{ap, length, ◌≡◌, [], refl}
use Rattle.rt_timeline.proofs.Indexed.{none_sorted, no_dues}
use Rattle.rt_timeline.proofs.timeline.Timeline.new.Goals as goal

pub invariant_of-result : goal.invariant_of-result
invariant_of-result c =
    let a : c.in-Ok.dues.items ≡ no_dues = c.in-Ok.ensures.items in
    let b : c.new.result.items ≡ [] = c.new.ensures in
    record { dues = ap length a; count = rw (a, b) refl; sorted = rw (a, b) none_sorted }
