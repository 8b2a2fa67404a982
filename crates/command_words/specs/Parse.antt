-- How commands are made, and how a parse of words by one answers.
use Rattle.std.specs.Prelude.{◌≡◌, true, false, ℕ, List, [], ◌∷◌, is_some, codes, Result, Ok, Err}
use Rattle.clap.specs.Words.{App, Rule, Text, rows_of, rule_of, found_of, first_value, app_of, args_of, groups_of}
use Rattle.clap.specs.Words.{AddsArg, AddsInTurn, IsParsedFrom, is_simple_and_free}
use Rattle.clap.specs.Built.{IsPlainArg, TakesValue}
use Rattle.clap.specs.declared.builder.arg.Arg.{Arg}
use Rattle.clap.specs.declared.builder.command.Command.TheViews.{out-Command as fields_of}
use Rattle.clap.specs.declared.parser.matches.ArgMatches.{ArgMatches}
use Rattle.clap.specs.declared.builder.command.Command.{Command}
use Rattle.command_words.specs.Command.{is_taken, rows_read, bare_app, needing_app, positional_rule, ticks_rule}
use Rattle.command_words.specs.declared.parse.WordsRefusal.{WordsRefusal}
use Rattle.command_words.specs.declared.parse.WordsRefusal.TheVariants.{Usage, NoMemory}

-- an argument that must be there with one value, with this id and by this rule
pub record IsNeeded (id : List ℕ) (rule : Rule) (a : Arg) : Type 0 where
  pub named : a.id.now ≡ id
  pub shape : rule_of a ≡ rule
  pub plain : IsPlainArg a
  pub local : a.global ≡ false
  pub value : TakesValue a

-- a command without arguments, and with no flag for help or for a version
pub record IsBare (name : List ℕ) (c : Command) : Type 0 where
  pub shape : app_of c ≡ bare_app name
  pub arguments : args_of c ≡ []
  pub groups : groups_of c ≡ []
  pub local : (fields_of c).has_globals ≡ false
  pub negates : (fields_of c).subcommand_negates_reqs ≡ false

-- such a command with a positional argument with this id and the ticks, which both must be there
pub record Needs (name id : List ℕ) (c : Command) : Type 0 where
  pub start : Command
  pub bare : IsBare name start
  pub first : Arg
  pub positional : IsNeeded id (positional_rule id) first
  pub second : Arg
  pub ticks : IsNeeded (codes "ticks") ticks_rule second
  pub chain : AddsInTurn AddsArg start (first ∷ second ∷ []) c
  pub shape : app_of c ≡ needing_app name id

-- both values that must be there are
abbrev pub HasBoth : List ℕ → ArgMatches → Type 0
HasBoth id m = (is_some (first_value (found_of m) id) ≡ true) × (is_some (first_value (found_of m) (codes "ticks")) ≡ true)

-- the command is the one of a definition, whose parse the crate defines, and a parse by it has what must be there
pub record IsCommand (app : App) (id : List ℕ) (c : Command) : Type 0 where
  pub shape : app_of c ≡ app
  pub simple : is_simple_and_free (app_of c) ≡ true
  pub has_both : (m : ArgMatches) → IsParsedFrom c m → HasBoth id m

-- the parse of the words by a command that was made
abbrev pub ParsesBy : Command → List Text → Result ArgMatches WordsRefusal → Type 0
ParsesBy c words (Ok m) = (is_taken (app_of c) words ≡ true) × (rows_of (found_of m) ≡ rows_read (app_of c) words) × IsParsedFrom c m
ParsesBy c words (Err Usage) = is_taken (app_of c) words ≡ false
ParsesBy c words (Err NoMemory) = Unit {0}

-- the parse of the words by the command of a definition
abbrev pub Parses : App → List ℕ → List Text → Result ArgMatches WordsRefusal → Type 0
Parses app id words (Ok m) = (is_taken app words ≡ true) × (rows_of (found_of m) ≡ rows_read app words) × HasBoth id m
Parses app id words (Err Usage) = is_taken app words ≡ false
Parses app id words (Err NoMemory) = Unit {0}
