use Rattle.std.proofs.Common.{ℕ, arith, get_or, Some, None, subst, sym, ◌≡◌}
use Rattle.std.proofs.lemmas.List.{get_or_read}
use Rattle.ready_queues.specs.PrioritySet.{has}
use Rattle.ready_queues.specs.Members.{Members, IsFirst}
use Rattle.ready_queues.proofs.Walks.{first_of_all, none_of_all}
use Rattle.ready_queues.proofs.queues.Queues.first.Goals as goal

pub returns-in-None : goal.returns-in-None
returns-in-None c = subst (λ (s : Members). IsFirst s None) c.self.view_is (none_of_all (λ k. get_or c.self.inside.links.items k 0) (λ p. get_or c.self.inside.heads.items p 0) (has c.self.inside.filled) c.self.invariant.linked c.self.invariant.filled c.in-None.ensures)

pub returns-in-Some : goal.returns-in-Some
returns-in-Some c =
    let e : c.index.result.now ≡ get_or c.self.inside.heads.items c.in-Some.priority 0 = get_or_read c.self.inside.heads.items c.in-Some.priority c.index.result.now (omega arith) c.index.ensures 0 in
    let t = c.in-Some.ensures in
    subst (λ (s : Members). IsFirst s (Some c.index.result.now)) c.self.view_is
    (subst (λ (i : ℕ). IsFirst (record { version = c.self.inside.version; members = c.self.inside.members.items }) (Some i)) (sym e)
    (first_of_all (λ k. get_or c.self.inside.links.items k 0) (λ p. get_or c.self.inside.heads.items p 0) (has c.self.inside.filled) c.in-Some.priority (omega arith) c.self.invariant.linked c.self.invariant.filled t.0 t.1))
