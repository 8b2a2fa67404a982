use Rattle.std.proofs.Common.{ap, ◌≡◌, length}
use Rattle.ready_queues.specs.PrioritySet.{has}
use Rattle.ready_queues.proofs.Lists.{none_linked, none_filled, no_members, no_heads, no_links}
use Rattle.ready_queues.proofs.queues.Queues.new.Goals as goal

pub invariant_of-result : goal.invariant_of-result
invariant_of-result c =
    let a : c.in_ok-from_slice.field-0.items ≡ no_members = c.in_ok-from_slice.ensures.items in
    let b : c.in_ok-from_slice-2.field-0.items ≡ no_heads = c.in_ok-from_slice-2.ensures.items in
    let d : c.in_ok-from_slice-3.field-0.items ≡ no_links = c.in_ok-from_slice-3.ensures.items in
    record {
      members = ap length a;
      heads = ap length b;
      links = ap length d;
      linked = rw (a, b, d) (none_linked c.args.version);
      filled = rw b (none_filled (has c.new.result) c.new.ensures);
    }
