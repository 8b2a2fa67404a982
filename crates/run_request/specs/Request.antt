-- How the words decide an answer before any file is fetched.
use Rattle.std.specs.Prelude.{◌≡◌, ℕ, List, Option, Some, None, Result, Ok, Err, IfSome}
use Rattle.outside_io.specs.Store.{Files}
use Rattle.command_words.specs.Run.{AskedRun}
use Rattle.run_files.specs.declared.cause.Cause.{Cause}
use Rattle.run_files.specs.declared.cause.Cause.TheVariants as cause
use Rattle.run_files.specs.declared.cause.Refusal.{Refusal}
use Rattle.run_files.specs.declared.cause.Refusal.TheVariants.{Because, NoMemory}
use Rattle.run_files.specs.declared.run.AcceptedRun.{AcceptedRun}
use Rattle.run_files.specs.Verdict.{About, shown_by}
use Rattle.run_request.specs.Open.{NamesFile}

-- the words and the ticks are accepted
abbrev pub HasTicks : Result ℕ About → Type 0
HasTicks said = (n : ℕ) × (said ≡ Ok n)

-- a refusal is by the words or the ticks exactly where these are refused, and it has their word
abbrev pub BlamesWords : Cause → List ℕ → Result ℕ About → Type 0
BlamesWords cause.Words name said = said ≡ Err (cause.Words, name)
BlamesWords cause.Ticks name said = said ≡ Err (cause.Ticks, name)
BlamesWords cause.Read name said = HasTicks said
BlamesWords cause.TooLarge name said = HasTicks said
BlamesWords cause.Document name said = HasTicks said
BlamesWords cause.Field name said = HasTicks said
BlamesWords (cause.Image rule) name said = HasTicks said
BlamesWords cause.Outside name said = HasTicks said
BlamesWords cause.Overlap name said = HasTicks said
BlamesWords (cause.Line line) name said = HasTicks said

-- an accepted run has the ticks that the words say, and a refusal is theirs exactly where they are refused
abbrev pub FollowsWords : Result AcceptedRun Refusal → Result ℕ About → Type 0
FollowsWords (Ok run) said = said ≡ Ok run.ticks
FollowsWords (Err (Because why name)) said = BlamesWords why name said
FollowsWords (Err NoMemory) said = Unit {0}

-- this is a file of the run before which all files are accepted, where the store tells
abbrev pub NamesRunFile : Option AskedRun → Option Files → List ℕ → Type 0
NamesRunFile None held name = ⊥
NamesRunFile (Some run) held name = IfSome held (λ files. NamesFile run.system files name)

-- the run shows the lines that the words ask for
abbrev pub ShowsAsked : Option AskedRun → AcceptedRun → Type 0
ShowsAsked None run = ⊥
ShowsAsked (Some words) run = run.shown ≡ shown_by words.hardware
