use Rattle.std.proofs.Common.{ℕ, List, Some, None, ap, ◌≡◌, ◌∙◌, ◌<◌, ◌+◌, ◌++◌, ◌∷◌, [], subst, sym, arith, get_or, set, refl, add-one, false}
use Rattle.std.proofs.lemmas.List.{length_push}
use Rattle.ready_queues.specs.declared.queues.Member.{Member}
use Rattle.ready_queues.specs.Members.{Members}
use Rattle.rt_ready.specs.declared.ready.Place.{Place}
use Rattle.rt_ready.specs.Order.{ReadyList, is_in, placed}
use Rattle.rt_ready.specs.Numbered.{AreNumbered, in_order}
use Rattle.rt_ready.specs.Renumbered.{IsRenumbered}
use Rattle.rt_ready.proofs.Members.{has_room, members_push}
use Rattle.rt_ready.proofs.Numbers.{absent_is, order_with, numbered_with}
use Rattle.rt_ready.proofs.Firsts.{fresh_from}
use Rattle.rt_ready.proofs.ready.Ready.add.Goals as goal

-- absent under the old numbers, absent under the new ones
still_absent : (old new : Members) (next n i : ℕ) → IsRenumbered old next new n → i < 64 → is_in i (in_order old.members next) ≡ false → get_or new.members i None ≡ None
still_absent old new next n i t h f = absent_is new.members n i _ t.numbered.members h t.numbered.apart t.numbered.below refl (ap (is_in i) t.seen ∙ f)

-- it comes last, with the next number
comes_last : (old new : Members) (next n i : ℕ) (o : Member) → IsRenumbered old next new n → i < 64 → is_in i (in_order old.members next) ≡ false → o.number ≡ n → o.priority < 256 → AreNumbered (record new { members = set new.members i (Some o) }) (n + 1) × (in_order (set new.members i (Some o)) (n + 1) ≡ in_order old.members next ++ record { id = i; priority = o.priority; since = o.since } ∷ [])
comes_last old new next n i o t h absent is small =
    let r = numbered_with new n (n + 1) i o h t.numbered (omega arith) (omega (arith, is)) small (λ j k d e f. absurd (omega (arith, t.numbered.below j k e, f, is))) in (
      r,
      ap (in_order (set new.members i (Some o))) (add-one n)
          ∙ order_with new.members n i o t.numbered.members h r.apart (still_absent old new next n i t h absent) is
          ∙ ap (λ (ps : List Place). ps ++ record { id = i; priority = o.priority; since = o.since } ∷ []) t.seen,
    )

pub insert-requires-clause-absent : goal.insert-requires-clause-absent
insert-requires-clause-absent c =
    let absent = subst (λ (r : ReadyList). is_in c.args.id r.places ≡ false) (sym c.self.view_is) c.requires.absent in
    still_absent c.self.inside.queues c.next_number-number.new.queues c.self.inside.next c.next_number-number.result c.args.id c.next_number-number.ensures.numbered c.requires.number absent

pub insert-requires-clause-fresh : goal.insert-requires-clause-fresh
insert-requires-clause-fresh c =
    let q = c.next_number-number.new.queues in
    let n = c.next_number-number.result in
    let t = c.next_number-number.ensures.numbered in
    let o : Member = record { priority = c.args.priority; since = c.args.since; number = n } in
    fresh_from q.version n q.members o t.numbered.below (omega (arith, c.next_number-number.ensures.more)) (omega (arith, c.next_number-number.ensures.more)) (λ j k e f. absurd (omega (arith, t.numbered.below j k e, f)))

pub invariant_of-self : goal.invariant_of-self
invariant_of-self c =
    let s = c.self.inside in
    let n = c.next_number-number.result in
    let o : Member = record { priority = c.args.priority; since = c.args.since; number = n } in
    let p : Place = record { id = c.args.id; priority = c.args.priority; since = c.args.since } in
    let absent = subst (λ (r : ReadyList). is_in c.args.id r.places ≡ false) (sym c.self.view_is) c.requires.absent in
    let t = comes_last s.queues c.next_number-number.new.queues s.next n c.args.id o c.next_number-number.ensures.numbered c.requires.number absent refl (omega arith) in
    record {
      fits = c.next_number-number.ensures.more;
      numbered = rw c.insert.ensures t.0;
      places = rw (c.insert.ensures, t.1) (members_push (in_order s.queues.members s.next) p c.self.invariant.places c.requires.number absent);
      count = rw (c.insert.ensures, t.1) (ap (λ (k : ℕ). k + 1) c.self.invariant.count ∙ sym (length_push (in_order s.queues.members s.next) p));
    }

pub returns : goal.returns
returns c =
    let s = c.self.inside in
    let q = c.next_number-number.new.queues in
    let n = c.next_number-number.result in
    let r = c.next_number-number.ensures.numbered in
    let o : Member = record { priority = c.args.priority; since = c.args.since; number = n } in
    let absent = subst (λ (r : ReadyList). is_in c.args.id r.places ≡ false) (sym c.self.view_is) c.requires.absent in
    let t = comes_last s.queues q s.next n c.args.id o r c.requires.number absent refl (omega arith) in
    ap (λ (m : Members). record { version = m.version; places = in_order m.members (n + 1) }) c.insert.ensures
    ∙ ap (λ (ps : List Place). record { version = q.version; places = ps }) t.1
    ∙ ap (λ (v : ℕ). record { version = v; places = in_order s.queues.members s.next ++ record { id = c.args.id; priority = c.args.priority; since = c.args.since } ∷ [] }) r.version
    ∙ ap (placed c.args.id c.args.priority c.args.since) c.self.view_is

pub overflow_add-self-2 : goal.overflow_add-self-2
overflow_add-self-2 c =
    let s = c.self.inside in
    let absent = subst (λ (r : ReadyList). is_in c.args.id r.places ≡ false) (sym c.self.view_is) c.requires.absent in
    omega (arith, c.self.invariant.count, has_room (in_order s.queues.members s.next) (record { id = c.args.id; priority = c.args.priority; since = c.args.since }) c.self.invariant.places c.requires.number absent)
