use Rattle.i386_alu.proofs.LawLemmas.{odd}
use Rattle.i386_alu.proofs.laws.odd_conditions_are_contraries.Goals as goal

pub returns : goal.returns
returns c = odd
