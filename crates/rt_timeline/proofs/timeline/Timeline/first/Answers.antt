use Rattle.std.proofs.Common.{ℕ, List, Option, Some, None, ap, length, ◌≡◌, ◌<◌, ◌∙◌, subst, sym, arith, get_or, take}
use Rattle.std.proofs.lemmas.List.{get_or_read, length-take}
use Rattle.std.proofs.lemmas.Bool.{eqb-true, eqb-false}
use Rattle.rt_timeline.specs.Dues.{Dues, first_due, nearest_from, nearest_due}
use Rattle.rt_timeline.specs.Index.{dues_of, place_named, IsLeast}
use Rattle.rt_timeline.proofs.Nearest.{least_first, least_nearest}
use Rattle.rt_timeline.proofs.Indexed.{none_is_least, first_is_least}
use Rattle.rt_timeline.proofs.timeline.Timeline.first.Goals as goal

threads_length : (ds : List (Option ℕ)) → length ds ≡ 65 → length (take 64 ds) ≡ 64
threads_length ds l = omega (arith, length-take 64 ds, l)

pub returns-then-is_empty : goal.returns-then-is_empty
returns-then-is_empty c =
    let ds = c.self.inside.dues.items in
    let least = none_is_least ds c.self.inside.order.items c.self.invariant.sorted (eqb-true _ _ (sym c.is_empty.ensures ∙ c.if-is_empty.true)) in
    record {
      first = subst (λ (d : Dues). None ≡ first_due (nearest_from 0 d.threads) d.guest) c.self.view_is (least_first (dues_of ds) None (threads_length ds c.self.invariant.dues) least);
      nearest = subst (λ (d : Dues). None ≡ nearest_due d) c.self.view_is (least_nearest (dues_of ds) None (threads_length ds c.self.invariant.dues) least);
      within = tt;
    }

pub returns-in-Some : goal.returns-in-Some
returns-in-Some c =
    let o = c.self.inside.order.items in
    let ds = c.self.inside.dues.items in
    let due = c.in-Some.due in
    let some : 0 < length o = omega (arith, eqb-false (length o) 0 (sym c.is_empty.ensures ∙ c.if-is_empty.false)) in
    let at : get_or c.deref.result.now 0 0 ≡ get_or o 0 0 = ap (λ (xs : List ℕ). get_or xs 0 0) (c.deref.ensures.0) in
    let small = (c.self.invariant.sorted.there 0 some).0 in
    let e : get_or ds (get_or c.deref.result.now 0 0) None ≡ Some due = sym (get_or_read ds (get_or c.deref.result.now 0 0) c.index.result.now (omega (arith, at, small, c.self.invariant.dues)) c.index.ensures None) ∙ c.in-Some.is in
    let least : IsLeast (dues_of ds) (Some (get_or o 0 0, due)) = first_is_least ds o due c.self.invariant.sorted some (ap (λ (p : ℕ). get_or ds p None) (sym at) ∙ e) in
    let long = threads_length ds c.self.invariant.dues in
    record {
      first = subst (λ (d : Dues). Some (place_named (get_or c.deref.result.now 0 0, due)) ≡ first_due (nearest_from 0 d.threads) d.guest) c.self.view_is
          (ap (λ (p : ℕ). Some (place_named (p, due))) at ∙ least_first (dues_of ds) (Some (get_or o 0 0, due)) long least);
      nearest = subst (λ (d : Dues). Some due ≡ nearest_due d) c.self.view_is (least_nearest (dues_of ds) (Some (get_or o 0 0, due)) long least);
      within = omega (arith, at, small);
    }
