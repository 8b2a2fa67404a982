use Rattle.std.proofs.Common.{ℕ, List, Option, Some, None, ap, length, ◌≡◌, ◌∙◌, ◌<◌, ◌≤◌, ◌+◌, ◌*◌, subst, sym, arith, get_or, set, lit<}
use Rattle.std.proofs.lemmas.List.{length-set}
use Rattle.std.proofs.lemmas.List.Edits.{length-insert}
use Rattle.rt_timeline.specs.Dues.{Dues}
use Rattle.rt_timeline.specs.Index.{with_place, due_at, rank_at, Sorts}
use Rattle.rt_timeline.proofs.Indexed.{sorts_inserted, seen_set, due_here, room, count_inserted}
use Rattle.rt_timeline.proofs.timeline.Timeline.set_place.Goals as goal

pub insert-requires : goal.insert-requires
insert-requires c =
    let ds = c.self.inside.dues.items in
    let none : get_or ds c.args.place None ≡ None = sym (due_here ds c.args.place c.requires.within) ∙ ap (λ (d : Dues). due_at d c.args.place) c.self.view_is ∙ c.requires.absent in
    (lit< tt, (omega (arith, c.place_in-i.ensures.within, ap length (c.deref-2.ensures.0)), room ds (length c.self.inside.order.items) c.args.place c.self.invariant.dues c.requires.within none c.self.invariant.count))

pub invariant_of-self : goal.invariant_of-self
invariant_of-self c =
    let ds = c.self.inside.dues.items in
    let o = c.self.inside.order.items in
    let p = c.args.place in
    let at = c.args.at in
    let i = c.place_in-i.result in
    let none : get_or ds p None ≡ None = sym (due_here ds p c.requires.within) ∙ ap (λ (d : Dues). due_at d p) c.self.view_is ∙ c.requires.absent in
    let within : i ≤ length o = omega (arith, c.place_in-i.ensures.within, ap length (c.deref-2.ensures.0)) in
    let low : (k : ℕ) → k < i → rank_at ds (get_or o k 0) < at * 65 + p = λ k h. subst (λ (xs : List ℕ). rank_at ds (get_or xs k 0) < at * 65 + p) (c.deref-2.ensures.0) (subst (λ (es : List (Option ℕ)). rank_at es (get_or c.deref-2.result.now k 0) < at * 65 + p) c.deref.ensures.value (c.place_in-i.ensures.before k h)) in
    let high : i < length o → at * 65 + p ≤ rank_at ds (get_or o i 0) = λ h. subst (λ (xs : List ℕ). at * 65 + p ≤ rank_at ds (get_or xs i 0)) (c.deref-2.ensures.0) (subst (λ (es : List (Option ℕ)). at * 65 + p ≤ rank_at es (get_or c.deref-2.result.now i 0)) c.deref.ensures.value (c.place_in-i.ensures.behind (omega (arith, h, ap length (c.deref-2.ensures.0))))) in
    record {
      dues = length-set ds p (Some at) ∙ c.self.invariant.dues;
      count = ap length c.insert.ensures.items ∙ length-insert o i p within ∙ count_inserted ds (length o) p at c.self.invariant.dues c.requires.within none c.self.invariant.count;
      sorted = subst (Sorts (set ds p (Some at))) (sym c.insert.ensures.items) (sorts_inserted ds o i p at c.self.invariant.dues c.self.invariant.sorted c.requires.within within none low high);
    }

pub returns : goal.returns
returns c = seen_set c.self.inside.dues.items c.args.place (Some c.args.at) c.self.invariant.dues c.requires.within ∙ ap (with_place c.args.place (Some c.args.at)) c.self.view_is
