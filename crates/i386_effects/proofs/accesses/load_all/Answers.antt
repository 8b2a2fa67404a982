use Rattle.std.proofs.Common.{arith}
use Rattle.std.proofs.lemmas.Grind.{common_steps}
use Rattle.i386_effects.proofs.accesses.load_all.Goals as goal

pub loop-touch-preserved : goal.loop-touch-preserved
loop-touch-preserved g c = grind (arith, common_steps)
