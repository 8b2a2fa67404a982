use Rattle.std.proofs.Common.{arith, ◌∙◌, ap}
use Rattle.run_stream.specs.Lines.{piece_of}
use Rattle.run_stream.proofs.Written.{fault_in}
use Rattle.run_stream.proofs.write.write_half.Goals as goal

pub returns-in-Err : goal.returns-in-Err
returns-in-Err g c =
    let put = c.in-Err.ensures in
    let own = c.as_bytes.ensures.text ∙ c.piece.ensures ∙ ap (λ l. piece_of (c.args.tick, g.L.Printed.line l)) c.line-item.is in (
      omega (arith, put.0, c.loop-line.invariant.kept),
      omega (arith, put.1, c.loop-line.invariant.kept),
      fault_in (λ l. piece_of (c.args.tick, g.L.Printed.line l)) (g.K.Sink.written c.args.sink.now) (g.K.Sink.written c.loop-line.sink) (g.K.Sink.written c.put.new.self) c.args.lines.now c.loop-line.line-index c.line-item.result c.as_bytes.result.now
          (omega arith) c.loop-line.invariant.told own put.2.0 put.2.1 put.2.2,
    )
