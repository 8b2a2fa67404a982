use Rattle.std.proofs.Common.{◌≡◌, refl, ◌∙◌, subst, arith}
use Rattle.run_stream.proofs.Ran.{lines_said, ran_next, stands_after, ticked_of}
use Rattle.run_stream.proofs.Streams.{breach_end, breach_first, breach_next, ends_same, fault_end, fault_first, fault_next, shown_same}
use Rattle.run_stream.specs.Ran.{HasRunTo}
use Rattle.run_report.proofs.Summing.{sums_end, sums_first, sums_next}
use Rattle.run_report.proofs.sum.sum_up.Goals as goal

pub loop-t-init : goal.loop-t-init
loop-t-init c = record {
  ran = c.in_ok-machine.ensures;
  sums = sums_first _ c.args.run.shown c.args.run refl refl c.new-2.ensures;
  real_time = omega arith;
  guest = omega arith;
  breach = breach_first c.args.run.shown c.args.run;
  fault = fault_first c.args.run.shown c.args.run;
}

pub loop-t-preserved : goal.loop-t-preserved
loop-t-preserved c =
    let tick = ticked_of c.tick.ensures.ticked c.tick.ensures.stands c.tick.ensures.coming c.tick.ensures.ticks in
    let same = lines_said c.args.run c.loop-t.t _ _ _ c.loop-t.invariant.ran tick in
    let said = shown_same c.args.run.shown c.args.run c.loop-t.t _ _ _ same.r same.h same.g in
    record {
      ran = ran_next c.args.run c.loop-t.t _ _ _ c.loop-t.invariant.ran tick;
      sums = sums_next _ _ c.args.run.shown c.args.run c.loop-t.t _ said c.loop-t.invariant.sums c.add_tick.ensures.added;
      real_time = omega (arith, c.add_tick.ensures.real_time, c.loop-t.invariant.real_time);
      guest = omega (arith, c.add_tick.ensures.guest, c.loop-t.invariant.guest);
      breach = breach_next c.args.run.shown c.args.run c.loop-t.t _ _ _ c.loop-t.breach _ said c.loop-t.invariant.breach c.add_tick.ensures.breach;
      fault = fault_next c.args.run.shown c.args.run c.loop-t.t _ _ _ c.loop-t.fault _ said c.loop-t.invariant.fault c.add_tick.ensures.fault;
    }

pub returns-clause-real_time : goal.returns-clause-real_time
returns-clause-real_time c =
    let said = ends_same c.args.run.shown c.args.run c.loop-t.t _ _ _ c.loop-t.invariant.ran c.end.ensures.real_time c.end.ensures.guest in
    (sums_end _ _ c.args.run.shown c.args.run c.loop-t.t _ (omega arith) said c.loop-t.invariant.sums c.add_ends.ensures).real_time

pub returns-clause-guest : goal.returns-clause-guest
returns-clause-guest c =
    let said = ends_same c.args.run.shown c.args.run c.loop-t.t _ _ _ c.loop-t.invariant.ran c.end.ensures.real_time c.end.ensures.guest in
    (sums_end _ _ c.args.run.shown c.args.run c.loop-t.t _ (omega arith) said c.loop-t.invariant.sums c.add_ends.ensures).guest

pub returns-clause-digest : goal.returns-clause-digest
returns-clause-digest c =
    let said = ends_same c.args.run.shown c.args.run c.loop-t.t _ _ _ c.loop-t.invariant.ran c.end.ensures.real_time c.end.ensures.guest in
    c.finalize.ensures _ (sums_end _ _ c.args.run.shown c.args.run c.loop-t.t _ (omega arith) said c.loop-t.invariant.sums c.add_ends.ensures).digest

pub returns-clause-breach : goal.returns-clause-breach
returns-clause-breach c = c.loop-t.invariant.breach ∙ breach_end c.args.run.shown c.args.run c.loop-t.t (omega arith)

pub returns-clause-fault : goal.returns-clause-fault
returns-clause-fault c = c.loop-t.invariant.fault ∙ fault_end c.args.run.shown c.args.run c.loop-t.t (omega arith)

pub returns-clause-machine : goal.returns-clause-machine
returns-clause-machine c =
    let done : c.loop-t.t ≡ c.args.run.ticks = omega arith in stands_after c.args.run _ (subst (λ n. HasRunTo c.args.run n c.loop-t.machine) done c.loop-t.invariant.ran)
