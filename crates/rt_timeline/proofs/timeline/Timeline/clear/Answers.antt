use Rattle.std.proofs.Common.{◌≡◌, None, subst, sym}
use Rattle.rt_timeline.specs.Dues.{Dues, with_due}
use Rattle.rt_timeline.specs.Index.{dues_of}
use Rattle.rt_timeline.specs.declared.timeline.Due.{Due}
use Rattle.rt_timeline.proofs.Indexed.{cleared_past}
use Rattle.rt_timeline.proofs.timeline.Timeline.clear.Goals as goal

pub returns-else-id-lt-GUEST : goal.returns-else-id-lt-GUEST
returns-else-id-lt-GUEST c =
    let ds = c.self.inside.dues.items in
    let past = cleared_past ds c.in-Thread.id c.if-id-lt-GUEST.false in
    subst (λ (d : Dues). d ≡ with_due c.args.owner None d) c.self.view_is (subst (λ (o : Due). dues_of ds ≡ with_due o None (dues_of ds)) (sym c.in-Thread.is) past)
