use Rattle.i386_alu.proofs.LawLemmas.{scales}
use Rattle.i386_alu.proofs.laws.shifts_scale.Goals as goal

pub returns : goal.returns
returns c = scales
