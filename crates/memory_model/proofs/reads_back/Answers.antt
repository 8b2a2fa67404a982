use Rattle.memory_model.proofs.Stores.{word_back}
use Rattle.memory_model.proofs.reads_back.Goals as goal

pub returns : goal.returns
returns c = word_back
