use Rattle.std.proofs.Common.{rules, arith}
use Rattle.device_script.proofs.Starts.{script_starts}
use Rattle.device_script.proofs.read.read_lines.Goals as goal

pub loop-left-init : goal.loop-left-init
loop-left-init c = (omega arith, rw c.new-draft.ensures (script_starts c.args.bytes.now))

pub loop-left-preserved : goal.loop-left-preserved
loop-left-preserved c = search rules
