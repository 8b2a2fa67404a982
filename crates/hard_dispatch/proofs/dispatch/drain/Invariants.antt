use Rattle.std.proofs.Common.{◌≡◌, ℕ, ◌||◌, ◌&&◌, ◌++◌}
use Rattle.line_sets.specs.LineSet.{has}
use Rattle.pic_8259.specs.Controllers.{latch_of}
use Rattle.pic_8259.specs.Boot.{IsBooted}
use Rattle.rt_irqs.specs.Irqs.{IsLines}
use Rattle.hard_dispatch.specs.Service.{in_order}
use Rattle.hard_dispatch.specs.Dispatch.{owner_of, is_module, is_guest}
use Rattle.hard_dispatch.proofs.dispatch.drain.Given as goal

-- what was acknowledged or still stands is what stood; what was acknowledged has gone to its owner
abbrev pub invariant-loop-line : goal.invariant-loop-line
invariant-loop-line l = record {
  booted : IsBooted l.pair;
  order : l.drained.taken.items ++ in_order (latch_of l.pair) ≡ in_order (latch_of l.fn.pair);
  shared : (k : ℕ) → (has l.drained.acknowledged k || has (latch_of l.pair) k) ≡ has (latch_of l.fn.pair) k;
  guest : (k : ℕ) → has l.drained.guest k ≡ (has l.drained.acknowledged k && is_guest (owner_of l.fn.irqs k));
  entries : l.irqs.entries ≡ l.fn.irqs.entries;
  soft : l.irqs.soft ≡ l.fn.irqs.soft;
  marked : (k : ℕ) → has l.irqs.marked k ≡ (has l.fn.irqs.marked k || (has l.drained.acknowledged k && is_module (owner_of l.fn.irqs k)));
  lines : IsLines l.irqs;
}

abbrev pub decreases-loop-line : goal.decreases-loop-line
decreases-loop-line l = latch_of l.pair
