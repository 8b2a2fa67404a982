use Rattle.std.proofs.Common.{◌++◌}
use Rattle.run_stream.proofs.Written.{puts_behind, puts_first}
use Rattle.run_report.specs.Report.{counts_line, digest_line}
use Rattle.run_report.proofs.summary.write_summary.Goals as goal

pub returns-in-Ok : goal.returns-in-Ok
returns-in-Ok g c =
    let all = puts_behind (g.K.Sink.written c.args.sink.now) _ _ _ _ _ c.as_bytes.result.now _ _ c.in-Ok.ensures.0 c.in-Ok.ensures.1 c.write_pair.ensures in
    rw (c.as_bytes.ensures.text, c.run_line.ensures, c.counts_line.ensures, c.digest_line.ensures) at all

pub returns-in-Err : goal.returns-in-Err
returns-in-Err g c =
    let rest = counts_line c.args.real_time c.args.guest ++ digest_line c.args.digest.now in
    let one = puts_first (g.K.Sink.written c.args.sink.now) (g.K.Sink.written c.put.new.self) _ _ c.as_bytes.result.now rest c.in-Err.fault c.in-Err.ensures in
    rw (c.as_bytes.ensures.text, c.run_line.ensures) at one
