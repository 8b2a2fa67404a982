-- The commands, by what the crate `clap` defines for their arguments.
use Rattle.std.specs.Prelude.{Bool, true, ℕ, List, codes, Some}
use Rattle.clap.specs.Words.{App, Row, Rule, Text, new_app, new_rule, with_rule, matches_of, fault_of}
use Rattle.clap.specs.Simple.{on_top}
use Rattle.clap.specs.Walk.{is_empty}
use Rattle.clap.specs.declared.builder.action.ArgAction.TheVariants.{Set, SetTrue}

-- SYSTEM or NUMBER: a positional argument that must be there
abbrev pub positional_rule : List ℕ → Rule
positional_rule id = record (new_rule id) { action = Some Set; required = true }

-- --ticks N: an option with one value that must be there
abbrev pub ticks_rule : Rule
ticks_rule = record (new_rule (codes "ticks")) { long = Some (codes "ticks"); action = Some Set; required = true }

-- --hardware: a flag, which takes no value and may be left out
abbrev pub hardware_rule : Rule
hardware_rule = record (new_rule (codes "hardware")) { long = Some (codes "hardware"); action = Some SetTrue }

-- a command has no flag for help or for a version
abbrev pub bare_app : List ℕ → App
bare_app name = on_top (λ s. record s { no_binary_name = true; disable_help_flag = true; disable_version_flag = true }) (new_app name)

-- each command has a positional argument and the ticks
abbrev pub needing_app : List ℕ → List ℕ → App
needing_app name id = with_rule (with_rule (bare_app name) (positional_rule id)) ticks_rule

-- the words behind `run` are read by these two and the flag
unfoldable pub run_command : App
run_command = with_rule (needing_app (codes "run") (codes "system")) hardware_rule

-- the words behind `make` are read by these two
unfoldable pub make_command : App
make_command = needing_app (codes "make") (codes "number")

-- a command takes the words: the crate finds no fault in them
unfoldable pub is_taken : App → List Text → Bool
is_taken command words = is_empty (fault_of command words)

-- what the crate reads in words that are taken: the values of each argument
unfoldable pub rows_read : App → List Text → List Row
rows_read command words = matches_of command words
