use Rattle.std.proofs.Common.{List, Option, None, Some, arith, get_or, length, sym, ap, ◌∙◌, ◌≡◌, ◌<◌, subst, refl}
use Rattle.std.proofs.lemmas.Bool.{lt-ltb, le-ltb}
use Rattle.std.proofs.lemmas.List.{get_or_read, length-set}
use Rattle.ready_queues.specs.PrioritySet.{has}
use Rattle.ready_queues.specs.declared.queues.Member.{Member}
use Rattle.ready_queues.specs.Members.{Members, queue_of, queue_at, key_at, key}
use Rattle.ready_queues.specs.Linked.{IsLast}
use Rattle.ready_queues.proofs.Lists.{remove_behind, remove_first, filled_with}
use Rattle.ready_queues.proofs.queues.Queues.remove.Goals as goal

pub invariant_of-self : goal.invariant_of-self
invariant_of-self c =
    let s = c.self.inside in
    let there : get_or s.members.items c.args.id None ≡ Some c.args.member = ap (λ (m : Members). get_or m.members c.args.id None) c.self.view_is ∙ c.requires.present in
    let before = subst (λ (ms : List (Option Member)). IsLast (queue_at ms) (key_at s.version ms) c.args.member.priority (key s.version c.args.member) c.last_before-last.result) c.deref.ensures.value c.last_before-last.ensures in
    let x = c.index-next.result.now in
    let e : x ≡ get_or s.links.items c.args.id 0 = get_or_read s.links.items c.args.id x (omega arith) c.index-next.ensures 0 in
    record {
      members = length-set s.members.items c.args.id None ∙ c.self.invariant.members;
      heads = c.self.invariant.heads;
      links = length-set s.links.items c.last_before-last.result x ∙ c.self.invariant.links;
      linked = remove_behind s.version s.members.items s.heads.items s.links.items c.args.id c.args.member c.last_before-last.result x c.self.invariant.members c.self.invariant.links c.requires.within there (omega arith) c.self.invariant.linked before c.if-last-lt-NONE.true e;
      filled = c.self.invariant.filled;
    }

pub invariant_of-self-then-is_empty : goal.invariant_of-self-then-is_empty
invariant_of-self-then-is_empty c =
    let s = c.self.inside in
    let there : get_or s.members.items c.args.id None ≡ Some c.args.member = ap (λ (m : Members). get_or m.members c.args.id None) c.self.view_is ∙ c.requires.present in
    let before = subst (λ (ms : List (Option Member)). IsLast (queue_at ms) (key_at s.version ms) c.args.member.priority (key s.version c.args.member) c.last_before-last.result) c.deref.ensures.value c.last_before-last.ensures in
    let x = c.index-next.result.now in
    let wide : c.args.member.priority < length s.heads.items = omega (arith, c.self.invariant.heads) in
    let e : x ≡ get_or s.links.items c.args.id 0 = get_or_read s.links.items c.args.id x (omega arith) c.index-next.ensures 0 in
    record {
      members = length-set s.members.items c.args.id None ∙ c.self.invariant.members;
      heads = length-set s.heads.items c.args.member.priority x ∙ c.self.invariant.heads;
      links = c.self.invariant.links;
      linked = remove_first s.version s.members.items s.heads.items s.links.items c.args.id c.args.member c.last_before-last.result x c.self.invariant.members c.self.invariant.heads c.requires.within there (omega arith) c.self.invariant.linked before c.if-last-lt-NONE.false e;
      filled = filled_with (has s.filled) (has c.remove.new.self) s.heads.items c.args.member.priority x wide c.self.invariant.filled (c.remove.ensures.removed ∙ sym (le-ltb x 64 (omega (arith, c.if-is_empty.true)))) c.remove.ensures.rest;
    }

pub invariant_of-self-else-is_empty : goal.invariant_of-self-else-is_empty
invariant_of-self-else-is_empty c =
    let s = c.self.inside in
    let there : get_or s.members.items c.args.id None ≡ Some c.args.member = ap (λ (m : Members). get_or m.members c.args.id None) c.self.view_is ∙ c.requires.present in
    let before = subst (λ (ms : List (Option Member)). IsLast (queue_at ms) (key_at s.version ms) c.args.member.priority (key s.version c.args.member) c.last_before-last.result) c.deref.ensures.value c.last_before-last.ensures in
    let x = c.index-next.result.now in
    let wide : c.args.member.priority < length s.heads.items = omega (arith, c.self.invariant.heads) in
    let e : x ≡ get_or s.links.items c.args.id 0 = get_or_read s.links.items c.args.id x (omega arith) c.index-next.ensures 0 in
    let stood : queue_at s.members.items c.args.id ≡ c.args.member.priority = ap queue_of there in
    let w = (c.self.invariant.linked.heads c.args.member.priority (omega arith)).least c.args.id c.requires.within stood (omega arith) in
    record {
      members = length-set s.members.items c.args.id None ∙ c.self.invariant.members;
      heads = length-set s.heads.items c.args.member.priority x ∙ c.self.invariant.heads;
      links = c.self.invariant.links;
      linked = remove_first s.version s.members.items s.heads.items s.links.items c.args.id c.args.member c.last_before-last.result x c.self.invariant.members c.self.invariant.heads c.requires.within there (omega arith) c.self.invariant.linked before c.if-last-lt-NONE.false e;
      filled = filled_with (has s.filled) (has s.filled) s.heads.items c.args.member.priority x wide c.self.invariant.filled (c.self.invariant.filled c.args.member.priority (omega arith) ∙ lt-ltb _ 64 w.0 ∙ sym (lt-ltb x 64 (omega (arith, c.if-is_empty.false)))) (λ r h d. refl);
    }
