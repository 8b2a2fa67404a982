use Rattle.std.proofs.Common.{◌≡◌, ℕ, ◌∙◌, ◌||◌, ◌&&◌, ◌++◌, ap, refl, sym, subst, arith}
use Rattle.line_sets.specs.LineSet.{has}
use Rattle.line_sets.proofs.LineSetLemmas.{same_lines, has-zero, without_line-lt}
use Rattle.pic_8259.specs.Controllers.{latch_of}
use Rattle.rt_irqs.specs.Irqs.{Lines}
use Rattle.hard_dispatch.specs.Dispatch.{owner_of, is_module, is_guest, guest_after, lines_after}
use Rattle.hard_dispatch.specs.Service.{in_order, TakesInTurn}
use Rattle.hard_dispatch.proofs.Requests.{latch-lowered, booted-lowered}
use Rattle.hard_dispatch.proofs.Owners.{same_owner, guest_step, marks_step, entries-after, soft-after, guest_whole, marks_whole}
use Rattle.hard_dispatch.proofs.Turns.{moved, in_turn, empty_booted, turns_on, turn_fits, all_turned}
use Rattle.hard_dispatch.proofs.dispatch.drain.Goals as goal

pub loop-line-smaller : goal.loop-line-smaller
loop-line-smaller c =
    let s = c.in-Some.ensures in
    let left = ap latch_of s.taken ∙ latch-lowered c.loop-line.pair c.in-Some.line s.before.master_fits in
    omega (arith, left, without_line-lt (latch_of c.loop-line.pair) c.in-Some.line s.stood)

pub loop-line-preserved : goal.loop-line-preserved
loop-line-preserved c =
    let s = c.in-Some.ensures in
    let n = c.in-Some.line in
    let i = c.loop-line.invariant in
    let held = c.args.irqs.now in
    let left = ap latch_of s.taken ∙ latch-lowered c.loop-line.pair n s.before.master_fits in
    let owner = same_owner c.loop-line.irqs held n i.entries in
    let lines = c.serve.ensures.lines ∙ ap (λ x. lines_after x n c.loop-line.irqs) owner in
    let guest = c.serve.ensures.guest ∙ ap (λ x. guest_after x n c.loop-line.drained.guest) owner in
    record {
      booted = rw s.taken (booted-lowered c.loop-line.pair n);
      order = turns_on c.loop-line.drained.taken.items c.serve.new.drained.taken.items (latch_of c.loop-line.pair) _ n (in_order (latch_of c.args.pair.now)) c.serve.ensures.taken left (sym s.first) i.order;
      shared = λ k. rw (left, c.serve.ensures.acknowledged) (moved c.loop-line.drained.acknowledged (latch_of c.loop-line.pair) n k s.stood ∙ i.shared k);
      guest = λ k. rw (guest, c.serve.ensures.acknowledged) (guest_step held c.loop-line.drained.acknowledged c.loop-line.drained.guest n k (i.guest k));
      entries = ap (λ (x : Lines). x.entries) lines ∙ (entries-after (owner_of held n) n c.loop-line.irqs ∙ i.entries);
      soft = ap (λ (x : Lines). x.soft) lines ∙ (soft-after (owner_of held n) n c.loop-line.irqs ∙ i.soft);
      marked = λ k. rw c.serve.ensures.acknowledged (ap (λ (x : Lines). has x.marked k) lines ∙ marks_step held c.loop-line.irqs c.loop-line.drained.acknowledged n k (i.marked k));
      lines = c.serve.ensures.kept;
    }

-- what was acknowledged, where nothing stands any more
whole : (taken left latch : ℕ) → left ≡ 0 → ((k : ℕ) → (has taken k || has left k) ≡ has latch k) → taken ≡ latch
whole taken left latch none shared = same_lines taken latch (λ k. grind (arith, shared k, ap (λ x. has x k) none, has-zero k))

pub returns-clause-acknowledged : goal.returns-clause-acknowledged
returns-clause-acknowledged c = whole c.loop-line.drained.acknowledged (latch_of c.loop-line.pair) (latch_of c.args.pair.now) c.in_default.ensures.none c.loop-line.invariant.shared

pub returns-clause-guest : goal.returns-clause-guest
returns-clause-guest c =
    let all = whole c.loop-line.drained.acknowledged (latch_of c.loop-line.pair) (latch_of c.args.pair.now) c.in_default.ensures.none c.loop-line.invariant.shared in
    guest_whole c.args.irqs.now (latch_of c.args.pair.now) c.loop-line.drained.guest c.next-line.ensures.lines
    (λ k. subst (λ x. has c.loop-line.drained.guest k ≡ (has x k && is_guest (owner_of c.args.irqs.now k))) all (c.loop-line.invariant.guest k))

pub returns-clause-timer : goal.returns-clause-timer
returns-clause-timer c =
    let all = whole c.loop-line.drained.acknowledged (latch_of c.loop-line.pair) (latch_of c.args.pair.now) c.in_default.ensures.none c.loop-line.invariant.shared in
    c.has_line16.ensures ∙ ap (λ x. has x 0) all

pub returns-clause-marked : goal.returns-clause-marked
returns-clause-marked c =
    let i = c.loop-line.invariant in
    let all = whole c.loop-line.drained.acknowledged (latch_of c.loop-line.pair) (latch_of c.args.pair.now) c.in_default.ensures.none i.shared in
    marks_whole c.args.irqs.now c.loop-line.irqs (latch_of c.args.pair.now) c.next-line.ensures.lines i.entries i.soft
    (λ k. subst (λ x. has c.loop-line.irqs.marked k ≡ (has c.args.irqs.now.marked k || (has x k && is_module (owner_of c.args.irqs.now k)))) all (i.marked k))

pub returns-clause-taken : goal.returns-clause-taken
returns-clause-taken c = all_turned c.loop-line.drained.taken.items (latch_of c.loop-line.pair) (in_order (latch_of c.args.pair.now)) c.in_default.ensures.none c.loop-line.invariant.order

pub returns-clause-turn : goal.returns-clause-turn
returns-clause-turn c =
    let last = c.in_default.ensures.same ∙ empty_booted c.loop-line.pair c.loop-line.invariant.booted c.in_default.ensures.none in
    let all = all_turned c.loop-line.drained.taken.items (latch_of c.loop-line.pair) (in_order (latch_of c.args.pair.now)) c.in_default.ensures.none c.loop-line.invariant.order in
    subst (λ xs. TakesInTurn xs c.args.pair.now c.take_first.new.pair) (sym all)
    (subst (λ q. TakesInTurn (in_order (latch_of c.args.pair.now)) c.args.pair.now q) (sym last) (in_turn c.args.pair.now c.requires c.request-line.ensures.pair))

pub serve-requires-clause-room : goal.serve-requires-clause-room
serve-requires-clause-room c = (turn_fits c.loop-line.drained.taken.items (latch_of c.loop-line.pair) c.in-Some.line (latch_of c.args.pair.now) (sym c.in-Some.ensures.first) c.loop-line.invariant.order)

pub loop-line-init : goal.loop-line-init
loop-line-init c =
    let none = c.nothing-drained.ensures in
    record {
      booted = c.requires;
      order = ap (λ xs. xs ++ in_order (latch_of c.args.pair.now)) none.taken;
      shared = λ k. grind (arith, ap (λ x. has x k) none.acknowledged, has-zero k);
      guest = λ k. grind (arith, ap (λ x. has x k) none.guest, ap (λ x. has x k) none.acknowledged, has-zero k);
      entries = refl;
      soft = refl;
      marked = λ k. grind (arith, ap (λ x. has x k) none.acknowledged, has-zero k);
      lines = c.next-line.ensures.lines;
    }
