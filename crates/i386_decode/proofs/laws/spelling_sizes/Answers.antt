use Rattle.i386_decode.proofs.FormFacts.{sizes}
use Rattle.i386_decode.proofs.laws.spelling_sizes.Goals as goal

pub returns : goal.returns
returns c = sizes
