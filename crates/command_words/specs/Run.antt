-- What the words behind `run` ask for.
use Rattle.std.specs.Prelude.{◌≡◌, true, false, ◌&&◌, Bool, ℕ, List, codes, if◌then◌else◌, Result, Ok, Err}
use Rattle.std.specs.Prelude.{Option, Some, None, option_map, option_and_then}
use Rattle.std.specs.Option.{option_map_or}
use Rattle.std.specs.Str.{bytes_eq}
use Rattle.clap.specs.Words.{Row, Text, first_of}
use Rattle.outside_io.specs.Names.{is_name}
use Rattle.command_words.specs.Values.{is_number}
use Rattle.command_words.specs.Command.{run_command, is_taken, rows_read}
use Rattle.command_words.specs.declared.run.RunWords.{RunWords}
use Rattle.command_words.specs.declared.parse.WordsRefusal.{WordsRefusal}
use Rattle.command_words.specs.declared.parse.WordsRefusal.TheVariants.{Usage, NoMemory}

-- the name of a system file, the word of the ticks, and whether the hardware's lines are asked for
pub record AskedRun : Type 0 where
  pub system : List ℕ
  pub ticks : List ℕ
  pub hardware : Bool

-- the value of a flag, which is `true` where the flag is among the words and `false` where it isn't
abbrev pub is_true : Option Text → Bool
is_true value = option_map_or (λ text. bytes_eq text (codes "true")) value false

-- the values of the arguments
abbrev pub asked_in : List Row → Option AskedRun
asked_in rows = option_and_then (λ system. option_map (λ ticks.
    record { system = system; ticks = ticks; hardware = is_true (first_of (codes "hardware") rows) })
    (first_of (codes "ticks") rows)) (first_of (codes "system") rows)

-- the system is a name, and the ticks are a number
abbrev pub checked : AskedRun → Option AskedRun
checked run = if is_name run.system && is_number run.ticks then Some run else None

-- what the words behind `run` ask for, where the command takes them and both values are right
unfoldable pub run_words_of : List (List ℕ) → Option AskedRun
run_words_of words = if is_taken run_command words then option_and_then checked (asked_in (rows_read run_command words)) else None

abbrev pub asked_by : RunWords → AskedRun
asked_by words = record { system = words.system.now; ticks = words.ticks.now; hardware = words.hardware }

-- the values of words that the command takes, before they are checked; Usage exactly where it takes none, unless memory is
-- refused
abbrev pub ReadsValues : List (List ℕ) → Result RunWords WordsRefusal → Type 0
ReadsValues words (Ok read) = (is_taken run_command words ≡ true) × (asked_in (rows_read run_command words) ≡ Some (asked_by read))
ReadsValues words (Err Usage) = is_taken run_command words ≡ false
ReadsValues words (Err NoMemory) = Unit {0}

-- a reader answers what the words ask for, and Usage exactly where they ask for nothing, unless memory is refused
abbrev pub ReadsRunWords : Result RunWords WordsRefusal → Option AskedRun → Type 0
ReadsRunWords (Ok read) asked = asked ≡ Some (asked_by read)
ReadsRunWords (Err Usage) asked = asked ≡ None
ReadsRunWords (Err NoMemory) asked = Unit {0}
