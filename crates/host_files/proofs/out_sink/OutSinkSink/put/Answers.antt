use Rattle.std.proofs.Common.{rules}
use Rattle.host_files.proofs.out_sink.OutSinkSink.put.Goals as goal

pub returns-else-write_whole : goal.returns-else-write_whole
returns-else-write_whole g c = search rules
