use Rattle.std.proofs.Common.{◌≡◌, take}
use Rattle.std.specs.Prelude.{flat_map}
use Rattle.outside_io.specs.Sink.{appended}
use Rattle.run_stream.specs.Lines.{piece_of}
use Rattle.run_stream.proofs.write.write_half.Given as goal

-- the lines so far were written, and no fault came
abbrev pub invariant-loop-line : goal.invariant-loop-line
invariant-loop-line g l = record {
  told : g.K.Sink.written l.sink ≡ appended (g.K.Sink.written l.initial.sink) (flat_map (λ x. piece_of (l.tick, g.L.Printed.line x)) (take l.line-index l.lines));
  kept : g.K.Sink.faults l.sink ≡ g.K.Sink.faults l.initial.sink;
}
