use Rattle.std.proofs.Common.{◌≡◌, ◌∙◌, ◌<◌, ℕ, List, Option, None, ap, length, subst, sym, set, get_or, false}
use Rattle.std.proofs.lemmas.List.{length-set}
use Rattle.rt_timeline.specs.Dues.{Dues}
use Rattle.rt_timeline.specs.Index.{has_at, with_place, Sorts}
use Rattle.rt_timeline.proofs.Indexed.{count_removed, sorts_removed, seen_set, seen_none}
use Rattle.rt_timeline.proofs.timeline.Timeline.clear_place.Goals as goal

pub invariant_of-self : goal.invariant_of-self
invariant_of-self c =
    let o = c.self.inside.order.items in
    let ds = c.self.inside.dues.items in
    let at = c.in-Some.at in
    let p = c.args.place in
    let there = subst (λ (xs : List ℕ). (at < length xs) × (get_or xs at 0 ≡ p)) (c.deref-2.ensures.0) c.in-Some.ensures.there in
    record {
      dues = length-set ds p None ∙ c.self.invariant.dues;
      count = ap length c.remove.ensures.items ∙ count_removed ds o at p c.self.invariant.dues c.self.invariant.sorted (there.0) (there.1) c.requires c.self.invariant.count;
      sorted = subst (Sorts (set ds p None)) (sym c.remove.ensures.items) (sorts_removed ds o at p c.self.invariant.dues c.self.invariant.sorted (there.0) (there.1) c.requires);
    }

pub returns-in-Some : goal.returns-in-Some
returns-in-Some c = seen_set c.self.inside.dues.items c.args.place None c.self.invariant.dues c.requires ∙ ap (with_place c.args.place None) c.self.view_is

pub returns-in-None : goal.returns-in-None
returns-in-None c =
    let absent = subst (λ (ds : List (Option ℕ)). has_at ds c.args.place ≡ false) c.deref.ensures.value c.in-None.ensures.absent in
    subst (λ (d : Dues). d ≡ with_place c.args.place None d) c.self.view_is (seen_none c.self.inside.dues.items c.args.place c.requires c.self.invariant.dues absent)
