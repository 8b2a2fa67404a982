use Rattle.std.proofs.Common.{◌≡◌, ◌++◌, ◌-◌, ◌*◌}
use Rattle.work_maker.specs.Draws.{after, threads_from}
use Rattle.work_maker.specs.Module.{starts_from}
use Rattle.work_maker.proofs.module.add_starts.Given as goal

abbrev pub invariant-loop-index : goal.invariant-loop-index
invariant-loop-index l = record {
  code : l.code.items ++ starts_from l.index (threads_from (8 - l.index) l.draws.state) ≡ l.initial.code.items ++ starts_from 0 (threads_from 8 l.initial.draws.state);
  next : after (3 * (8 - l.index)) l.draws.state ≡ after 24 l.initial.draws.state;
}
