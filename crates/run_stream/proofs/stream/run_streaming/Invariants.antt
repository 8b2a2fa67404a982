use Rattle.std.proofs.Common.{◌≡◌}
use Rattle.outside_io.specs.Sink.{appended}
use Rattle.run_stream.specs.Ran.{HasRunTo}
use Rattle.run_stream.specs.Lines.{shown_to, text_of, has_breach, has_fault}
use Rattle.run_stream.proofs.stream.run_streaming.Given as goal

-- the machine ran the ticks so far, their lines were written, and no fault came
abbrev pub invariant-loop-t : goal.invariant-loop-t
invariant-loop-t g l = record {
  ran : HasRunTo l.fn.run l.t l.machine;
  told : g.K.Sink.written l.sink ≡ appended (g.K.Sink.written l.initial.sink) (text_of (shown_to l.fn.run.shown l.fn.run l.t));
  kept : g.K.Sink.faults l.sink ≡ g.K.Sink.faults l.initial.sink;
  breach : l.breach ≡ has_breach (shown_to l.fn.run.shown l.fn.run l.t);
  fault : l.fault ≡ has_fault (shown_to l.fn.run.shown l.fn.run l.t);
}
