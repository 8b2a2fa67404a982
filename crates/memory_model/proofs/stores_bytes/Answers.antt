use Rattle.memory_model.proofs.Stores.{bytes_stored}
use Rattle.memory_model.proofs.stores_bytes.Goals as goal

pub returns : goal.returns
returns c = bytes_stored
