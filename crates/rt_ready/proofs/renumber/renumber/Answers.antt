use Rattle.std.proofs.Common.{List, Option, Some, None, ap, ◌≡◌, ◌∙◌, ◌+◌, subst, sym, arith, set, refl}
use Rattle.std.proofs.lemmas.List.{set-set}
use Rattle.ready_queues.specs.declared.queues.Member.{Member}
use Rattle.ready_queues.specs.Members.{Members, IsFresh, key}
use Rattle.rt_ready.specs.Renumbered.{IsPartly}
use Rattle.rt_ready.proofs.Firsts.{fresh_from}
use Rattle.rt_ready.proofs.Moved.{partly_more, partly_all, few, fresh_new, below_left}
use Rattle.rt_ready.proofs.renumber.renumber.Goals as goal

pub insert-requires-clause-fresh : goal.insert-requires-clause-fresh
insert-requires-clause-fresh c =
    let q = c.loop-id.queues in
    let x = c.in-Some.ensures in
    let o : Member = record { priority = c.in-Some.member.priority; since = c.in-Some.member.since; number = c.loop-id.count } in
    let p = c.loop-id.invariant in
    subst (λ (r : Members). IsFresh r (key r.version o)) (sym c.remove.ensures)
    (fresh_from q.version c.args.next (set q.members c.in-Some.id None) o (λ i m e. (below_left q c.args.next c.in-Some.id (x.0) p.numbered i m e)) (omega arith) (omega (arith, p.order.0, p.order.1))
    (λ j k e. fresh_new c.args.queues.now q c.args.next c.loop-id.count c.loop-id.from c.in-Some.id c.in-Some.member j k p (x.0) (x.1) (x.2) (x.3) e))

pub loop-id-preserved : goal.loop-id-preserved
loop-id-preserved c =
    let q = c.loop-id.queues in
    let x = c.in-Some.ensures in
    let o : Member = record { priority = c.in-Some.member.priority; since = c.in-Some.member.since; number = c.loop-id.count } in
    let now : c.insert.new.self ≡ record q { members = set q.members c.in-Some.id (Some o) } = c.insert.ensures ∙ ap (λ (r : Members). record r { members = set r.members c.in-Some.id (Some o) }) c.remove.ensures ∙ ap (λ (ms : List (Option Member)). record q { members = ms }) (set-set q.members c.in-Some.id None (Some o)) in
    subst (λ (r : Members). IsPartly c.args.queues.now c.args.next r (c.loop-id.count + 1) (c.in-Some.member.number + 1)) (sym now)
    (partly_more c.args.queues.now q c.args.next c.loop-id.count c.loop-id.from c.in-Some.id c.in-Some.member o c.loop-id.invariant (x.0) (x.1) (x.2) (x.3) refl refl refl)

pub returns-clause-numbered : goal.returns-clause-numbered
returns-clause-numbered c = partly_all c.args.queues.now c.loop-id.queues c.args.next c.loop-id.count c.loop-id.from c.loop-id.invariant c.in_default.ensures

pub returns-clause-few : goal.returns-clause-few
returns-clause-few c = few c.args.queues.now c.loop-id.queues c.args.next c.loop-id.count c.loop-id.from c.loop-id.invariant
