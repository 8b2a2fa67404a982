use Rattle.std.proofs.Common.{rules}
use Rattle.host_files.proofs.file_store.FileStore.fail.Goals as goal

pub returns-clause-rose : goal.returns-clause-rose
returns-clause-rose g c = search rules

pub returns-clause-name : goal.returns-clause-name
returns-clause-name g c = search rules
