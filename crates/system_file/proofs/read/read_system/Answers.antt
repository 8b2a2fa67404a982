use Rattle.std.proofs.lemmas.Bool.{false≢true}
use Rattle.system_file.proofs.Document.{read_of_refused, read_of_document}
use Rattle.system_file.proofs.read.read_system.Goals as goal

pub returns-in-Ok : goal.returns-in-Ok
returns-in-Ok c = read_of_document c.args.bytes.now _ _ c.in-Ok.ensures.ok.0 c.in-Ok.ensures.ok.1 c.system.ensures

pub returns-in-Err-2 : goal.returns-in-Err-2
returns-in-Err-2 c =
    let told = rw c.if-is_memory.false at c.is_memory.ensures in
    read_of_refused c.args.bytes.now (c.in-Err.ensures.refused (λ m. false≢true (told.1 m)))
