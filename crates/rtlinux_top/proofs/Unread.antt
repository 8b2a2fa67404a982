-- The files of a system are those of its words.
use Rattle.std.proofs.Common.{List, ℕ, Option, Some, None}
use Rattle.std.specs.Prelude.{Result, Ok, Err}
use Rattle.outside_io.specs.Store.{Files}
use Rattle.command_words.specs.Run.{AskedRun}
use Rattle.run_files.specs.Refusal.{IfUnread}
use Rattle.run_files.specs.declared.cause.Refusal.{Refusal}
use Rattle.run_files.specs.declared.cause.Refusal.TheVariants.{Because, NoMemory}
use Rattle.run_request.specs.Request.{NamesRunFile}
use Rattle.rtlinux_top.specs.Answers.{NamesAskedFile}
use Rattle.rtlinux_top.specs.Words.{run_asked}

of_system : (asked : Option AskedRun) (held : Option Files) (name : List ℕ) → NamesRunFile asked held name → NamesAskedFile (run_asked asked) held name
of_system None held name names = absurd names
of_system (Some run) held name names = names

pub unread_of_system : {A : Type 0} (result : Result A Refusal) (asked : Option AskedRun) (held : Option Files)
    → IfUnread result (NamesRunFile asked held) → IfUnread result (NamesAskedFile (run_asked asked) held)
unread_of_system (Ok made) asked held unread = tt
unread_of_system (Err (Because why name)) asked held unread = λ is. of_system asked held name (unread is)
unread_of_system (Err NoMemory) asked held unread = tt
