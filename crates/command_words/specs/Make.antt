-- What the words behind `make` ask for.
use Rattle.std.specs.Prelude.{◌≡◌, true, false, ℕ, List, codes, if◌then◌else◌, Result, Ok, Err}
use Rattle.std.specs.Prelude.{Option, Some, None, option_map, option_and_then}
use Rattle.clap.specs.Words.{Row, first_of}
use Rattle.command_words.specs.Values.{is_number, number_of}
use Rattle.command_words.specs.Command.{make_command, is_taken, rows_read}
use Rattle.command_words.specs.declared.make.GivenWords.{GivenWords}
use Rattle.command_words.specs.declared.make.MakeWords.{MakeWords}
use Rattle.command_words.specs.declared.parse.WordsRefusal.{WordsRefusal}
use Rattle.command_words.specs.declared.parse.WordsRefusal.TheVariants.{Usage, NoMemory}

-- the number that a system is made from, and the word of the ticks
pub record AskedMake : Type 0 where
  pub number : ℕ
  pub ticks : List ℕ

-- the words of the number and of the ticks
abbrev pub given_in : List Row → Option (List ℕ × List ℕ)
given_in rows = option_and_then (λ number. option_map (λ ticks. (number, ticks)) (first_of (codes "ticks") rows)) (first_of (codes "number") rows)

-- beside a number the ticks are one too
abbrev pub beside_number : List ℕ → ℕ → Option AskedMake
beside_number ticks number = if is_number ticks then Some (record { number = number; ticks = ticks }) else None

abbrev pub made_from : List ℕ × List ℕ → Option AskedMake
made_from (number, ticks) = option_and_then (beside_number ticks) (number_of number)

-- what the words behind `make` ask for, where the command takes them and both values are right
unfoldable pub make_words_of : List (List ℕ) → Option AskedMake
make_words_of words = if is_taken make_command words then option_and_then made_from (given_in (rows_read make_command words)) else None

-- the words of both values, where the command takes them, before they are checked; Usage exactly where it takes none, unless memory is
-- refused
abbrev pub ReadsGiven : List (List ℕ) → Result GivenWords WordsRefusal → Type 0
ReadsGiven words (Ok given) = (is_taken make_command words ≡ true) × (given_in (rows_read make_command words) ≡ Some (given.number.now, given.ticks.now))
ReadsGiven words (Err Usage) = is_taken make_command words ≡ false
ReadsGiven words (Err NoMemory) = Unit {0}

-- a reader answers what the words ask for, and Usage exactly where they ask for nothing, unless memory is refused
abbrev pub ReadsMakeWords : Result MakeWords WordsRefusal → Option AskedMake → Type 0
ReadsMakeWords (Ok read) asked = asked ≡ Some (record { number = read.number; ticks = read.ticks.now })
ReadsMakeWords (Err Usage) asked = asked ≡ None
ReadsMakeWords (Err NoMemory) asked = Unit {0}
