use Rattle.i386_alu.proofs.LawLemmas.{lowest}
use Rattle.i386_alu.proofs.laws.lowest_is_set.Goals as goal

pub returns : goal.returns
returns c = lowest
