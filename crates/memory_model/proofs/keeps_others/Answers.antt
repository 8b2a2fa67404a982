use Rattle.memory_model.proofs.Stores.{others_same}
use Rattle.memory_model.proofs.keeps_others.Goals as goal

pub returns : goal.returns
returns c = others_same
