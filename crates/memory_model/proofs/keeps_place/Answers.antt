use Rattle.memory_model.proofs.Stores.{same_place}
use Rattle.memory_model.proofs.keeps_place.Goals as goal

pub returns : goal.returns
returns c = same_place
