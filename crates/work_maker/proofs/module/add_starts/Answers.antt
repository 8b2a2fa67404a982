use Rattle.std.proofs.Common.{◌∙◌, sym}
use Rattle.work_maker.proofs.Steps.{after_step, starts_step}
use Rattle.work_maker.proofs.module.add_starts.Goals as goal

pub loop-index-preserved : goal.loop-index-preserved
loop-index-preserved c =
    let i = c.loop-index.index in
    let x = c.loop-index.draws.state in
    let step = starts_step c.loop-index.code.items 8 i x c.loop-index-test.true in
    record {
      code = rw (c.in_ok-add_timing.ensures, c.in_ok-add_making.ensures, c.thread-thread.ensures.drawn, c.thread-thread.ensures.next) (step ∙ c.loop-index.invariant.code);
      next = rw c.thread-thread.ensures.next (sym (after_step 8 i x c.loop-index-test.true) ∙ c.loop-index.invariant.next);
    }
