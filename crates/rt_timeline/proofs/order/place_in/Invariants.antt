use Rattle.std.proofs.Common.{◌<◌, ◌≤◌, ◌+◌, ◌*◌, ◌-◌, ℕ, length, get_or}
use Rattle.rt_timeline.specs.Index.{rank_at}
use Rattle.rt_timeline.proofs.order.place_in.Given as goal

abbrev pub invariant-loop-low : goal.invariant-loop-low
invariant-loop-low l = record {
  ordered : l.low ≤ l.high;
  within : l.high ≤ length l.order;
  before : (k : ℕ) → k < l.low → rank_at l.dues (get_or l.order k 0) < l.at * 65 + l.owner;
  behind : l.high < length l.order → l.at * 65 + l.owner ≤ rank_at l.dues (get_or l.order l.high 0);
}

abbrev pub decreases-loop-low : goal.decreases-loop-low
decreases-loop-low l = l.high - l.low
