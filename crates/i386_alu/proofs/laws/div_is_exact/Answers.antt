use Rattle.i386_alu.proofs.LawLemmas.{div}
use Rattle.i386_alu.proofs.laws.div_is_exact.Goals as goal

pub returns : goal.returns
returns c = div
