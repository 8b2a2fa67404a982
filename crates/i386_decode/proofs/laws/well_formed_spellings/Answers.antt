use Rattle.i386_decode.proofs.FormFacts.{well_formed}
use Rattle.i386_decode.proofs.laws.well_formed_spellings.Goals as goal

pub returns : goal.returns
returns c = well_formed
