use Rattle.std.proofs.Common.{List, Option, Some, None, ap, ◌≡◌, ◌∙◌, subst, sym, arith, get_or, set, refl, map}
use Rattle.std.proofs.lemmas.List.{length-map, set-set}
use Rattle.ready_queues.specs.declared.queues.Member.{Member}
use Rattle.ready_queues.specs.Members.{Members, IsFresh, key}
use Rattle.rt_ready.specs.declared.ready.Place.{Place}
use Rattle.rt_ready.specs.Order.{ReadyList, rated}
use Rattle.rt_ready.specs.Numbered.{in_order}
use Rattle.rt_ready.proofs.Members.{members_rated}
use Rattle.rt_ready.proofs.Numbers.{numbered_without, numbered_with, number_fresh}
use Rattle.rt_ready.proofs.Firsts.{fresh_from, order_rated, order_unrated}
use Rattle.rt_ready.proofs.ready.Ready.set_priority.Goals as goal

pub returns-in_default : goal.returns-in_default
returns-in_default c =
    let s = c.self.inside in
    let absent : get_or s.queues.members c.args.id None ≡ None = sym c.in_default.ensures.member in
    sym c.self.view_is
    ∙ ap (λ ps. record { version = s.queues.version; places = ps }) (order_unrated s.queues.members s.next c.args.id c.args.priority c.self.invariant.numbered.members absent)
    ∙ ap (λ (r : ReadyList). record r { places = map (rated c.args.id c.args.priority) r.places }) c.self.view_is

pub insert-requires-clause-fresh : goal.insert-requires-clause-fresh
insert-requires-clause-fresh c =
    let s = c.self.inside in
    let n = c.self.invariant.numbered in
    let w = c.in-Some.ensures.within in
    let there : get_or s.queues.members c.args.id None ≡ Some c.in-Some.member = sym c.in-Some.ensures.member in
    let o : Member = record { priority = c.args.priority; since = c.in-Some.member.since; number = c.in-Some.member.number } in
    subst (λ (q : Members). IsFresh q (key q.version o)) (sym c.remove.ensures)
    (fresh_from s.queues.version s.next (set s.queues.members c.args.id None) o (numbered_without s.queues s.next c.args.id w n).below c.self.invariant.fits (omega (arith, n.below c.args.id c.in-Some.member there, c.self.invariant.fits)) (λ j k e. number_fresh s.queues.members c.args.id c.in-Some.member j k n.members w n.apart there e))

pub invariant_of-self : goal.invariant_of-self
invariant_of-self c =
    let s = c.self.inside in
    let i = c.args.id in
    let n = c.self.invariant.numbered in
    let w = c.in-Some.ensures.within in
    let there : get_or s.queues.members i None ≡ Some c.in-Some.member = sym c.in-Some.ensures.member in
    let o : Member = record { priority = c.args.priority; since = c.in-Some.member.since; number = c.in-Some.member.number } in
    let gone = c.insert.ensures ∙ ap (λ (q : Members). record q { members = set q.members i (Some o) }) c.remove.ensures in
    let same : in_order (set (set s.queues.members i None) i (Some o)) s.next ≡ map (rated i c.args.priority) (in_order s.queues.members s.next) =
    ap (λ (ms : List (Option Member)). in_order ms s.next) (set-set s.queues.members i None (Some o)) ∙ order_rated s.queues.members s.next i c.args.priority c.in-Some.member o n.members w there refl refl refl in
    record {
      fits = c.self.invariant.fits;
      numbered = rw gone (numbered_with (record s.queues { members = set s.queues.members i None }) s.next s.next i o w (numbered_without s.queues s.next i w n) (omega arith) (n.below i c.in-Some.member there) (omega arith) (λ j k d e. number_fresh s.queues.members i c.in-Some.member j k n.members w n.apart there e));
      places = rw (gone, same) (members_rated i c.args.priority (in_order s.queues.members s.next) c.self.invariant.places);
      count = rw (gone, same) (c.self.invariant.count ∙ sym (length-map (in_order s.queues.members s.next) (rated i c.args.priority)));
    }

pub returns-in-Some : goal.returns-in-Some
returns-in-Some c =
    let s = c.self.inside in
    let i = c.args.id in
    let n = c.self.invariant.numbered in
    let there : get_or s.queues.members i None ≡ Some c.in-Some.member = sym c.in-Some.ensures.member in
    let o : Member = record { priority = c.args.priority; since = c.in-Some.member.since; number = c.in-Some.member.number } in
    ap (λ (q : Members). record { version = q.version; places = in_order q.members s.next }) c.insert.ensures
    ∙ ap (λ (q : Members). record { version = q.version; places = in_order (set q.members i (Some o)) s.next }) c.remove.ensures
    ∙ ap (λ (ms : List (Option Member)). record { version = s.queues.version; places = in_order ms s.next }) (set-set s.queues.members i None (Some o))
    ∙ ap (λ (ps : List Place). record { version = s.queues.version; places = ps }) (order_rated s.queues.members s.next i c.args.priority c.in-Some.member o n.members c.in-Some.ensures.within there refl refl refl)
    ∙ ap (λ (r : ReadyList). record r { places = map (rated i c.args.priority) r.places }) c.self.view_is
