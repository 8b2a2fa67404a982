use Rattle.run_stream.proofs.Written.{puts_behind}
use Rattle.run_report.proofs.summary.write_pair.Goals as goal

pub returns-in-Ok : goal.returns-in-Ok
returns-in-Ok g c =
    let both = puts_behind (g.K.Sink.written c.args.sink.now) _ _ _ _ _ c.as_bytes.result.now c.as_bytes-in-Ok.result.now _ c.in-Ok.ensures.0 c.in-Ok.ensures.1 c.put-in-Ok.ensures in
    rw (c.as_bytes.ensures.text, c.as_bytes-in-Ok.ensures.text) at both
