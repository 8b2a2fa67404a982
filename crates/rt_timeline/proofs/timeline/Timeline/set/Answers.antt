use Rattle.std.proofs.Common.{ℕ, Some, None, ap, ◌∙◌}
use Rattle.rt_timeline.specs.Index.{with_place}
use Rattle.rt_timeline.proofs.Indexed.{set_after}
use Rattle.rt_timeline.proofs.timeline.Timeline.set.Goals as goal

pub returns : goal.returns
returns c = c.set_place.ensures ∙ ap (with_place c.place_of-place.result (Some c.args.at)) c.clear_place.ensures ∙ ap (λ (p : ℕ). with_place p (Some c.args.at) (with_place p None c.args.self.now)) c.place_of-place.ensures.place ∙ set_after c.args.owner c.args.at c.args.self.now c.requires
