-- When each answer comes, and what is written with it.
use Rattle.std.specs.Prelude.{◌≡◌, ℕ, List, Option, IfSome, IfErr, Ok, Err}
use Rattle.outside_io.specs.Causes.{Rose}
use Rattle.outside_io.specs.Sink.{appended}
use Rattle.outside_io.specs.Store.{Files}
use Rattle.run_files.specs.declared.cause.Cause.TheVariants as cause
use Rattle.run_files.specs.declared.run.AcceptedRun.{AcceptedRun}
use Rattle.run_files.specs.Line.{refusal_text}
use Rattle.run_files.specs.Verdict.{Verdict}
use Rattle.run_request.specs.Open.{NamesFile}
use Rattle.run_request.specs.Request.{HasTicks}
use Rattle.run_stream.specs.Writes.{AppendsPart}
use Rattle.rtlinux_top.specs.declared.last.Last.{Last}
use Rattle.rtlinux_top.specs.declared.status.Status.{Status}
use Rattle.rtlinux_top.specs.Last.{KeepsMachine}
use Rattle.rtlinux_top.specs.Verdict.{asked_ticks, known, verdict_of, status_of, verdict_output}
use Rattle.rtlinux_top.specs.Words.{Asked, Unknown, Flat, System, Made}

-- the answer is that of a verdict, and its output was written
abbrev pub AnswersBy : Verdict → Status → Option (List ℕ) → Option (List ℕ) → Type 0
AnswersBy verdict status old new = (status ≡ status_of verdict) × (new ≡ appended old (verdict_output verdict))

-- the same, by the words and by what the files hold, where that is known
abbrev pub AnswersTo : Asked → Option Files → Status → Option (List ℕ) → Option (List ℕ) → Type 0
AnswersTo asked held status old new = IfSome (known asked held) (λ files. AnswersBy (verdict_of asked files) status old new)

-- where the words or the ticks are refused, the answer says so, and their line was written
abbrev pub AnswersWords : Asked → Status → Option (List ℕ) → Option (List ℕ) → Type 0
AnswersWords asked status old new = IfErr (asked_ticks asked) (λ about. AnswersBy (Err about) status old new)

-- the words are accepted and the ticks are not
abbrev pub RefusesTicks : Asked → Type 0
RefusesTicks asked = (word : List ℕ) × (asked_ticks asked ≡ Err (cause.Ticks, word))

-- this is the name of a file of the command before which every file is accepted, where the store tells
abbrev pub NamesAskedFile : Asked → Option Files → List ℕ → Type 0
NamesAskedFile Unknown held name = ⊥
NamesAskedFile (Flat image word) held name = name ≡ image
NamesAskedFile (System run) held name = IfSome held (λ files. NamesFile run.system files name)
NamesAskedFile (Made make) held name = ⊥

-- the words ask for a system that is made, which has no files
abbrev pub HasNoFiles : Asked → Type 0
HasNoFiles Unknown = ⊥
HasNoFiles (Flat image word) = ⊥
HasNoFiles (System run) = ⊥
HasNoFiles (Made make) = Unit {0}

-- the words and the ticks are accepted, and a file of the command couldn't be read: the store's count of faults rose, and the name that
-- failed last is that of such a file
abbrev pub ReadFailed : Asked → Option Files → ℕ → ℕ → List ℕ → Type 0
ReadFailed asked held before now name = Rose before now × HasTicks (asked_ticks asked) × NamesAskedFile asked held name

-- a first part of the line of a file that couldn't be read was written
abbrev pub WritesPartOfLine : List ℕ → Option (List ℕ) → Option (List ℕ) → Type 0
WritesPartOfLine name old new = AppendsPart old new (refusal_text cause.Read name)

-- a first part of what the words and the files determine was written
abbrev pub WritesPart : Asked → Files → Option (List ℕ) → Option (List ℕ) → Type 0
WritesPart asked files old new = AppendsPart old new (verdict_output (verdict_of asked files))

-- a run of the ticks that the words say, which is that of the files where these are known: all of its output was written, the answer is
-- whether a breach is among its lines, and its machine was kept after all ticks
pub record Runs (asked : Asked) (held : Option Files) (status : Status) (old new : Option (List ℕ)) (last : Last) (run : AcceptedRun) : Type 0 where
  pub ticks : asked_ticks asked ≡ Ok run.ticks
  pub files : IfSome (known asked held) (λ files. verdict_of asked files ≡ Ok run)
  pub answer : AnswersBy (Ok run) status old new
  pub machine : KeepsMachine run last
