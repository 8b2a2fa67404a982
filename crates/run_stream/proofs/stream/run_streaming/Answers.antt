use Rattle.std.proofs.Common.{◌≡◌, [], ◌++◌, refl, ap, sym, ◌∙◌, subst, arith}
use Rattle.std.proofs.lemmas.List.{append-nil}
use Rattle.run_stream.specs.Lines.{shown_to, text_of}
use Rattle.run_stream.proofs.Written.{fault_part}
use Rattle.run_stream.proofs.Streams.{told_first, told_next, shown_same, whole_at, whole_end, ends_same, told_end, breach_first, breach_next, breach_end, fault_first, fault_next, fault_end}
use Rattle.run_stream.proofs.Ran.{lines_said, ran_next, stands_after, ticked_of}
use Rattle.run_stream.specs.Ran.{HasRunTo}
use Rattle.run_stream.proofs.stream.run_streaming.Goals as goal

pub loop-t-init : goal.loop-t-init
loop-t-init g c = record {
  ran = c.in-Ok-boot.ensures;
  told = told_first (g.K.Sink.written c.args.sink.now) c.args.run.shown c.args.run;
  kept = refl;
  breach = breach_first c.args.run.shown c.args.run;
  fault = fault_first c.args.run.shown c.args.run;
}

pub returns-in-Err-tell-clause-written : goal.returns-in-Err-tell-clause-written
returns-in-Err-tell-clause-written g c =
    let put = c.in-Err-tell.ensures.written in
    let same = lines_said c.args.run c.loop-t.t _ _ _ c.loop-t.invariant.ran (ticked_of c.tick.ensures.ticked c.tick.ensures.stands c.tick.ensures.coming c.tick.ensures.ticks) in
    let said = shown_same c.args.run.shown c.args.run c.loop-t.t _ _ _ same.r same.h same.g in
    let whole = whole_at c.args.run.shown c.args.run c.loop-t.t _ (omega arith) said in (
      omega (arith, put.0, c.loop-t.invariant.kept),
      omega (arith, put.1, c.loop-t.invariant.kept),
      fault_part (g.K.Sink.written c.args.sink.now) (g.K.Sink.written c.loop-t.sink) (g.K.Sink.written c.tell.new.sink) (text_of (shown_to c.args.run.shown c.args.run c.loop-t.t)) _ whole.0 _
          c.loop-t.invariant.told whole.1 put.2.0 put.2.1 put.2.2,
    )

pub loop-t-preserved : goal.loop-t-preserved
loop-t-preserved g c =
    let tick = ticked_of c.tick.ensures.ticked c.tick.ensures.stands c.tick.ensures.coming c.tick.ensures.ticks in
    let same = lines_said c.args.run c.loop-t.t _ _ _ c.loop-t.invariant.ran tick in
    let said = shown_same c.args.run.shown c.args.run c.loop-t.t _ _ _ same.r same.h same.g in
    record {
      ran = ran_next c.args.run c.loop-t.t _ _ _ c.loop-t.invariant.ran tick;
      told = told_next (g.K.Sink.written c.args.sink.now) (g.K.Sink.written c.loop-t.sink) (g.K.Sink.written c.tell.new.sink) c.args.run.shown c.args.run c.loop-t.t _ said c.loop-t.invariant.told c.in-Ok-tell.ensures.written.0;
      kept = c.in-Ok-tell.ensures.written.1 ∙ c.loop-t.invariant.kept;
      breach = breach_next c.args.run.shown c.args.run c.loop-t.t _ _ _ c.loop-t.breach _ said c.loop-t.invariant.breach c.tell.ensures.breach;
      fault = fault_next c.args.run.shown c.args.run c.loop-t.t _ _ _ c.loop-t.fault _ said c.loop-t.invariant.fault c.tell.ensures.fault;
    }

pub returns-in-Ok-write_ends-clause-written : goal.returns-in-Ok-write_ends-clause-written
returns-in-Ok-write_ends-clause-written g c =
    let done : c.loop-t.t ≡ c.args.run.ticks = omega arith in
    let said = ends_same c.args.run.shown c.args.run c.loop-t.t _ _ _ c.loop-t.invariant.ran c.end.ensures.real_time c.end.ensures.guest in (
      told_end (g.K.Sink.written c.args.sink.now) (g.K.Sink.written c.loop-t.sink) (g.K.Sink.written c.write_ends.new.sink) c.args.run.shown c.args.run c.loop-t.t _ done said c.loop-t.invariant.told c.in-Ok-write_ends.ensures.0,
      c.in-Ok-write_ends.ensures.1 ∙ c.loop-t.invariant.kept,
    )

pub returns-in-Ok-write_ends-clause-breach : goal.returns-in-Ok-write_ends-clause-breach
returns-in-Ok-write_ends-clause-breach g c = c.loop-t.invariant.breach ∙ breach_end c.args.run.shown c.args.run c.loop-t.t (omega arith)

pub returns-in-Ok-write_ends-clause-fault : goal.returns-in-Ok-write_ends-clause-fault
returns-in-Ok-write_ends-clause-fault g c = c.loop-t.invariant.fault ∙ fault_end c.args.run.shown c.args.run c.loop-t.t (omega arith)

pub returns-clause-written : goal.returns-clause-written
returns-clause-written g c =
    let put = c.in-Err-write_ends.ensures in
    let done : c.loop-t.t ≡ c.args.run.ticks = omega arith in
    let said = ends_same c.args.run.shown c.args.run c.loop-t.t _ _ _ c.loop-t.invariant.ran c.end.ensures.real_time c.end.ensures.guest in
    let front = text_of (shown_to c.args.run.shown c.args.run c.loop-t.t) in
    let whole = whole_end c.args.run.shown c.args.run c.loop-t.t _ done said ∙ ap (λ xs. front ++ xs) (sym (append-nil _)) in (
      omega (arith, put.0, c.loop-t.invariant.kept),
      omega (arith, put.1, c.loop-t.invariant.kept),
      fault_part (g.K.Sink.written c.args.sink.now) (g.K.Sink.written c.loop-t.sink) (g.K.Sink.written c.write_ends.new.sink) front _ [] _
          c.loop-t.invariant.told whole put.2.0 put.2.1 put.2.2,
    )

pub returns-in-Ok-write_ends-clause-machine : goal.returns-in-Ok-write_ends-clause-machine
returns-in-Ok-write_ends-clause-machine g c =
    let done : c.loop-t.t ≡ c.args.run.ticks = omega arith in stands_after c.args.run _ (subst (λ n. HasRunTo c.args.run n c.loop-t.machine) done c.loop-t.invariant.ran)
