-- What a parse by a command says of its words.
use Rattle.std.proofs.lemmas.Bool.Decides.{nat_tests}
use Rattle.std.proofs.Common.{arith, ◌≡◌, Bool, ℕ, List, [], ◌∷◌, true, false, refl, ◌∙◌, ap, Some, codes, inl, inr, Result, Ok, Err}
use Rattle.clap.specs.Words.{Text, Row, App, Kinds, HasKind, is_simple, is_simple_and_free, fault_of, matches_of, kind_of, rows_of}
use Rattle.clap.specs.declared.builder.command.Command.{Command}
use Rattle.clap.specs.declared.parser.matches.ArgMatches.{ArgMatches}
use Rattle.clap.specs.declared.error.Error.{Error}
use Rattle.clap.specs.declared.error.kind.ErrorKind.TheVariants.{OutOfMemory}
use Rattle.clap.specs.Words.{first_of, first_value}
use Rattle.clap.specs.Walk.{is_empty}
use Rattle.clap.specs.declared.parser.matches.Found.{Found}
use Rattle.clap.proofs.WalkLemmas.{first_value-rows}
use Rattle.command_words.specs.Command.{run_command, make_command, is_taken, rows_read}
use Rattle.command_words.specs.Run.{asked_in, is_true}
use Rattle.command_words.specs.Make.{given_in}
use Rattle.command_words.specs.Parse.{IsCommand, Parses, ParsesBy}
use Rattle.command_words.specs.declared.parse.WordsRefusal.{WordsRefusal}
use Rattle.command_words.specs.declared.parse.WordsRefusal.TheVariants.{Usage, NoMemory}

pub taken : (a : App) (words : List Text) → fault_of a words ≡ [] → is_taken a words ≡ true
unfolding is_taken
taken a words none = ap is_empty none

-- a fault that isn't want of memory
some_fault : (kinds : Kinds) (e : Error) → (kind_of e ≡ OutOfMemory → ⊥) → HasKind kinds e → is_empty kinds ≡ false
some_fault [] e other (inl h) = absurd (other h)
some_fault [] e other (inr h) = absurd h
some_fault (k ∷ ks) e other h = grind (arith, nat_tests)

pub refused : (a : App) (words : List Text) (e : Error) → (kind_of e ≡ OutOfMemory → ⊥) → HasKind (fault_of a words) e → is_taken a words ≡ false
unfolding is_taken
refused a words e other h = some_fault (fault_of a words) e other h

pub rows : (a : App) (words : List Text) (found : List Row) → found ≡ matches_of a words → found ≡ rows_read a words
unfolding rows_read
rows a words found e = e

-- a parse by a command that is the one of a definition
pub by_command : (app : App) (id : List ℕ) (c : Command) (words : List Text) (result : Result ArgMatches WordsRefusal)
    → IsCommand app id c → ParsesBy c words result → Parses app id words result
by_command app id c words (Ok m) is parsed =
    (rw (← is.shape) parsed.0, rw (← is.shape) parsed.1, is.has_both m parsed.2)
by_command app id c words (Err Usage) is parsed = rw (← is.shape) parsed
by_command app id c words (Err NoMemory) is parsed = tt

pub asked : (f : Found) (words : List Text) (system ticks : Text) (hardware : Bool) → rows_of f ≡ rows_read run_command words
    → first_value f (codes "system") ≡ Some system → first_value f (codes "ticks") ≡ Some ticks
    → hardware ≡ is_true (first_value f (codes "hardware"))
    → asked_in (rows_read run_command words) ≡ Some (record { system = system; ticks = ticks; hardware = hardware })
asked f words system ticks hardware same s t h =
    let at = λ (id : Text). first_value-rows f id ∙ ap (first_of id) same in
    rw (← at (codes "system"), s, ← at (codes "ticks"), t, ← at (codes "hardware"), ← h) refl

pub given : (f : Found) (words : List Text) (number ticks : Text) → rows_of f ≡ rows_read make_command words
    → first_value f (codes "number") ≡ Some number → first_value f (codes "ticks") ≡ Some ticks
    → given_in (rows_read make_command words) ≡ Some (number, ticks)
given f words number ticks same n t =
    let at = λ (id : Text). first_value-rows f id ∙ ap (first_of id) same in
    rw (← at (codes "number"), n, ← at (codes "ticks"), t) refl

pub plain : (a : App) → is_simple_and_free a ≡ true → is_simple a ≡ true
plain a free = grind (arith, nat_tests)
