use Rattle.i386_decode.proofs.SpellingLaws.{one_spelling}
use Rattle.i386_decode.proofs.laws.one_spelling.Goals as goal

pub returns : goal.returns
returns c = one_spelling
