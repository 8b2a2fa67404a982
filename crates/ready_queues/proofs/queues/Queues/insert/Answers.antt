use Rattle.std.proofs.Common.{List, Option, None, Some, arith, get_or, set, length, sym, ap, ◌∙◌, ◌≡◌, ◌<◌, subst}
use Rattle.std.proofs.lemmas.Bool.{lt-ltb}
use Rattle.std.proofs.lemmas.List.{get_or_read, length-set}
use Rattle.ready_queues.specs.PrioritySet.{has}
use Rattle.ready_queues.specs.declared.queues.Member.{Member}
use Rattle.ready_queues.specs.Members.{Members, IsFresh, queue_at, key_at, key}
use Rattle.ready_queues.specs.Linked.{IsLast}
use Rattle.ready_queues.proofs.Lists.{insert_behind, insert_first, filled_with}
use Rattle.ready_queues.proofs.queues.Queues.insert.Goals as goal

pub invariant_of-self : goal.invariant_of-self
invariant_of-self c =
    let s = c.self.inside in
    let absent : get_or s.members.items c.args.id None ≡ None = ap (λ (m : Members). get_or m.members c.args.id None) c.self.view_is ∙ c.requires.absent in
    let fresh = subst (λ (m : Members). IsFresh m (key m.version c.args.member)) (sym c.self.view_is) c.requires.fresh in
    let before = subst (λ (ms : List (Option Member)). IsLast (queue_at ms) (key_at s.version ms) c.args.member.priority (key s.version c.args.member) c.last_before-last.result) c.deref.ensures.value c.last_before-last.ensures in
    let x = c.index-then-last-lt-NONE.result.now in
    let e : x ≡ get_or s.links.items c.last_before-last.result 0 = get_or_read s.links.items c.last_before-last.result x (omega arith) c.index-then-last-lt-NONE.ensures 0 in
    record {
      members = length-set s.members.items c.args.id (Some c.args.member) ∙ c.self.invariant.members;
      heads = c.self.invariant.heads;
      links = length-set (set s.links.items c.args.id x) c.last_before-last.result c.args.id ∙ length-set s.links.items c.args.id x ∙ c.self.invariant.links;
      linked = insert_behind s.version s.members.items s.heads.items s.links.items c.args.id c.args.member c.last_before-last.result x c.self.invariant.members c.self.invariant.links c.requires.within absent (omega arith) fresh c.self.invariant.linked before c.if-last-lt-NONE.true e;
      filled = c.self.invariant.filled;
    }

pub invariant_of-self-2 : goal.invariant_of-self-2
invariant_of-self-2 c =
    let s = c.self.inside in
    let absent : get_or s.members.items c.args.id None ≡ None = ap (λ (m : Members). get_or m.members c.args.id None) c.self.view_is ∙ c.requires.absent in
    let fresh = subst (λ (m : Members). IsFresh m (key m.version c.args.member)) (sym c.self.view_is) c.requires.fresh in
    let before = subst (λ (ms : List (Option Member)). IsLast (queue_at ms) (key_at s.version ms) c.args.member.priority (key s.version c.args.member) c.last_before-last.result) c.deref.ensures.value c.last_before-last.ensures in
    let x = c.index-2.result.now in
    let small : c.args.member.priority < 256 = omega arith in
    let wide : c.args.member.priority < length s.heads.items = omega (arith, c.self.invariant.heads) in
    let e : x ≡ get_or s.heads.items c.args.member.priority 0 = get_or_read s.heads.items c.args.member.priority x wide c.index-2.ensures 0 in
    record {
      members = length-set s.members.items c.args.id (Some c.args.member) ∙ c.self.invariant.members;
      heads = length-set s.heads.items c.args.member.priority c.args.id ∙ c.self.invariant.heads;
      links = length-set s.links.items c.args.id x ∙ c.self.invariant.links;
      linked = insert_first s.version s.members.items s.heads.items s.links.items c.args.id c.args.member c.last_before-last.result x c.self.invariant.members c.self.invariant.heads c.self.invariant.links c.requires.within absent small fresh c.self.invariant.linked before c.if-last-lt-NONE.false e;
      filled = filled_with (has s.filled) (has c.put.new.self) s.heads.items c.args.member.priority c.args.id wide c.self.invariant.filled (c.put.ensures.put ∙ sym (lt-ltb c.args.id 64 c.requires.within)) c.put.ensures.rest;
    }
