use Rattle.std.proofs.Common.{rules}
use Rattle.i386_strings.specs.Iteration.{iterated}
use Rattle.i386_strings.proofs.iteration.compare_words.Goals as goal

pub returns-clause-effect : goal.returns-clause-effect
unfolding iterated
returns-clause-effect g c = search rules
