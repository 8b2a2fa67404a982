use Rattle.i386_alu.proofs.LawLemmas.{highest}
use Rattle.i386_alu.proofs.laws.highest_is_set.Goals as goal

pub returns : goal.returns
returns c = highest
