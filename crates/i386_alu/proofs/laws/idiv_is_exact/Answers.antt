use Rattle.i386_alu.proofs.LawLemmas.{idiv}
use Rattle.i386_alu.proofs.laws.idiv_is_exact.Goals as goal

pub returns : goal.returns
returns c = idiv
