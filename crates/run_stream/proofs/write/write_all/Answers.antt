use Rattle.run_stream.proofs.Written.{puts_behind, puts_first}
use Rattle.run_stream.proofs.write.write_all.Goals as goal

pub returns-in-Ok : goal.returns-in-Ok
returns-in-Ok g c = puts_behind (g.K.Sink.written c.args.sink.now) _ _ _ _ _ _ _ _ c.in-Ok.ensures.0 c.in-Ok.ensures.1 c.write_behind.ensures

pub returns-in-Err : goal.returns-in-Err
returns-in-Err g c = puts_first _ _ _ _ _ _ c.in-Err.fault c.in-Err.ensures
