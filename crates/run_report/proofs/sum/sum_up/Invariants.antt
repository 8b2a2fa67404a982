use Rattle.std.proofs.Common.{◌≡◌, ◌≤◌, ◌*◌, ◌^◌}
use Rattle.run_stream.specs.Lines.{shown_to, has_breach, has_fault}
use Rattle.run_stream.specs.Ran.{HasRunTo}
use Rattle.run_report.specs.Sums.{Sums}
use Rattle.run_report.proofs.sum.sum_up.Given as goal

-- the machine ran the ticks so far, and the sum is that of their lines; a tick has fewer than 2^64 of each half
abbrev pub invariant-loop-t : goal.invariant-loop-t
invariant-loop-t l = record {
  ran : HasRunTo l.fn.run l.t l.machine;
  sums : Sums l.sum (shown_to l.fn.run.shown l.fn.run l.t);
  real_time : l.sum.real_time ≤ l.t * 2 ^ 64;
  guest : l.sum.guest ≤ l.t * 2 ^ 64;
  breach : l.breach ≡ has_breach (shown_to l.fn.run.shown l.fn.run l.t);
  fault : l.fault ≡ has_fault (shown_to l.fn.run.shown l.fn.run l.t);
}
