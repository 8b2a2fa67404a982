use Rattle.std.proofs.Common.{rules}
use Rattle.host_files.proofs.file_store.FileStoreStore.fetch.Goals as goal

pub returns-in-Err-NoMemory-clause-cause : goal.returns-in-Err-NoMemory-clause-cause
returns-in-Err-NoMemory-clause-cause g c = search rules
