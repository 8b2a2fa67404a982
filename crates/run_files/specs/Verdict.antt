-- What the words of `run` and the files come to: the first cause of a refusal with the name or the word that it is about, in
-- the order of the words, the ticks, the system file, the image, the modules and the script; or else the run that is accepted.
use Rattle.std.specs.Prelude.{ℕ, Bool, true, false, List, [], ◌∷◌, length, nat_lt, if◌then◌else◌, Option, Some, None, Result, Ok, Err}
use Rattle.outside_io.specs.Store.{Files}
use Rattle.command_words.specs.Values.{ticks_of}
use Rattle.command_words.specs.Run.{AskedRun}
use Rattle.system_file.specs.declared.system.System.{System}
use Rattle.run_files.specs.declared.sides.Sides.{Sides}
use Rattle.run_files.specs.declared.modules.Loaded.{Loaded}
use Rattle.device_script.specs.declared.script.Script.{Script}
use Rattle.run_files.specs.declared.run.AcceptedRun.{AcceptedRun}
use Rattle.run_files.specs.declared.run.Report.TheVariants.{Lines}
use Rattle.run_files.specs.declared.run.Shown.{Shown}
use Rattle.run_files.specs.declared.run.Shown.TheVariants.{Both, WithHardware}
use Rattle.run_files.specs.declared.cause.Cause.{Cause}
use Rattle.run_files.specs.declared.cause.Cause.TheVariants as cause
use Rattle.run_files.specs.Files.{file_limit, system_in, sides_in, module_in, script_in}
use Rattle.run_files.specs.Modules.{before_modules}

-- a cause, and the name of the file or the word
abbrev pub About : Type 0
About = Cause × List ℕ

abbrev pub Verdict : Type 0
Verdict = Result AcceptedRun About

infixl 10 ◌>>=◌
abbrev pub ◌>>=◌ : {A B E : Type 0} → Result A E → (A → Result B E) → Result B E
(Ok x) >>= f = f x
(Err e) >>= f = Err e

-- a cause is about this name
abbrev pub about : {A : Type 0} → List ℕ → Result A Cause → Result A About
about name (Ok x) = Ok x
about name (Err why) = Err (why, name)

-- the bytes that a name holds, which are no more than the limit
abbrev pub bytes_held : Option (List ℕ) → Result (List ℕ) Cause
bytes_held None = Err cause.Read
bytes_held (Some bytes) = if nat_lt file_limit (length bytes) then Err cause.TooLarge else Ok bytes

-- what is made of the file with a name
abbrev pub made_of_file : {A : Type 0} → (List ℕ → Result A Cause) → Files → List ℕ → Result A About
made_of_file make files name = about name (bytes_held (files name) >>= make)

-- no script is a script without events
abbrev pub script_named : Files → Option (List ℕ) → Result Script About
script_named files None = Ok (record { events = [] })
script_named files (Some name) = made_of_file script_in files name

-- the lines that are shown: those of both halves, and the hardware's where they are asked for
abbrev pub shown_by : Bool → Shown
shown_by false = Both
shown_by true = WithHardware

-- the script, and with it the run, which has the version of the system, and of which each line is written
abbrev pub script_verdict : System → Loaded → ℕ → Shown → Files → Verdict
script_verdict system loaded ticks shown files =
    script_named files system.script
    >>= λ script. Ok (record { sides = loaded.sides; inits = loaded.inits; version = system.version; script = script; ticks = ticks; shown = shown; report = Lines })

-- the modules of these names, each on what those before it left
abbrev pub modules_loaded : Files → Loaded → List (List ℕ) → Result Loaded About
modules_loaded files loaded [] = Ok loaded
modules_loaded files loaded (name ∷ names) = made_of_file (module_in loaded) files name >>= λ next. modules_loaded files next names

-- the modules, and then the script
abbrev pub modules_verdict : System → Sides → ℕ → Shown → Files → Verdict
modules_verdict system sides ticks shown files =
    modules_loaded files (before_modules sides) system.modules >>= λ loaded. script_verdict system loaded ticks shown files

-- the image, and then the modules
abbrev pub image_verdict : System → ℕ → Shown → Files → Verdict
image_verdict system ticks shown files =
    made_of_file (sides_in system) files system.image >>= λ sides. modules_verdict system sides ticks shown files

-- the system file, and then the image
unfoldable pub system_verdict : List ℕ → ℕ → Shown → Files → Verdict
system_verdict name ticks shown files =
    made_of_file system_in files name >>= λ system. image_verdict system ticks shown files

-- the ticks that a word says, or their refusal
abbrev pub ticks_said : List ℕ → Option ℕ → Result ℕ About
ticks_said word None = Err (cause.Ticks, word)
ticks_said word (Some ticks) = Ok ticks

abbrev pub ticks_in : List ℕ → Result ℕ About
ticks_in word = ticks_said word (ticks_of word)

-- what the words alone come to: the ticks, or the first refusal
abbrev pub run_ticks : Option AskedRun → Result ℕ About
run_ticks None = Err (cause.Words, [])
run_ticks (Some run) = ticks_in run.ticks

-- the words come first, then the ticks, then the files
abbrev pub run_verdict : Option AskedRun → Files → Verdict
run_verdict None files = Err (cause.Words, [])
run_verdict (Some run) files = ticks_in run.ticks >>= λ ticks. system_verdict run.system ticks (shown_by run.hardware) files
