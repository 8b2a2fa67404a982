-- Usual words behind `run` and `make`, and what they say.
use Rattle.std.specs.Prelude.{◌≡◌, Bool, true, false, [], ◌∷◌, codes, Option, Some, None}
use Rattle.command_words.specs.Run.{AskedRun, run_words_of}
use Rattle.command_words.specs.Make.{AskedMake, make_words_of}

-- the system s.toml and 13 ticks, with the hardware's lines or without them
abbrev pub thirteen : Bool → Option AskedRun
thirteen hardware = Some (record { system = codes "s.toml"; ticks = codes "13"; hardware = hardware })

-- the option stands behind the system or before it, and its value in the next word or in the same one; the hardware's lines are
-- asked for where the flag stands, wherever it does
pub record ReadsUsualWords : Type 0 where
  pub behind : run_words_of (codes "s.toml" ∷ codes "--ticks" ∷ codes "13" ∷ []) ≡ thirteen false
  pub before : run_words_of (codes "--ticks" ∷ codes "13" ∷ codes "s.toml" ∷ []) ≡ thirteen false
  pub joined : run_words_of (codes "s.toml" ∷ codes "--ticks=13" ∷ []) ≡ thirteen false
  pub joined_before : run_words_of (codes "--ticks=13" ∷ codes "s.toml" ∷ []) ≡ thirteen false
  pub after_dashes : run_words_of (codes "--ticks" ∷ codes "13" ∷ codes "--" ∷ codes "s.toml" ∷ []) ≡ thirteen false
  pub flag_behind : run_words_of (codes "s.toml" ∷ codes "--ticks" ∷ codes "13" ∷ codes "--hardware" ∷ []) ≡ thirteen true
  pub flag_between : run_words_of (codes "s.toml" ∷ codes "--hardware" ∷ codes "--ticks" ∷ codes "13" ∷ []) ≡ thirteen true
  pub flag_before : run_words_of (codes "--hardware" ∷ codes "s.toml" ∷ codes "--ticks" ∷ codes "13" ∷ []) ≡ thirteen true
  pub flag_before_system : run_words_of (codes "--ticks" ∷ codes "13" ∷ codes "--hardware" ∷ codes "s.toml" ∷ []) ≡ thirteen true
  pub flag_beside_joined : run_words_of (codes "--ticks=13" ∷ codes "--hardware" ∷ codes "s.toml" ∷ []) ≡ thirteen true

-- words of which none says a run
pub record RefusesOtherWords : Type 0 where
  pub nothing : run_words_of [] ≡ None
  pub no_ticks : run_words_of (codes "s.toml" ∷ []) ≡ None
  pub no_value : run_words_of (codes "s.toml" ∷ codes "--ticks" ∷ []) ≡ None
  pub empty_value : run_words_of (codes "s.toml" ∷ codes "--ticks=" ∷ []) ≡ None
  pub no_number : run_words_of (codes "s.toml" ∷ codes "--ticks" ∷ codes "five" ∷ []) ≡ None
  pub negative : run_words_of (codes "s.toml" ∷ codes "--ticks" ∷ codes "-5" ∷ []) ≡ None
  pub negative_joined : run_words_of (codes "s.toml" ∷ codes "--ticks=-5" ∷ []) ≡ None
  pub no_system : run_words_of (codes "--ticks" ∷ codes "13" ∷ []) ≡ None
  pub empty_system : run_words_of ([] ∷ codes "--ticks" ∷ codes "13" ∷ []) ≡ None
  pub two_systems : run_words_of (codes "s.toml" ∷ codes "t.toml" ∷ codes "--ticks" ∷ codes "13" ∷ []) ≡ None
  pub two_options : run_words_of (codes "s.toml" ∷ codes "--ticks" ∷ codes "13" ∷ codes "--ticks" ∷ codes "13" ∷ []) ≡ None
  pub shortened : run_words_of (codes "s.toml" ∷ codes "--tick" ∷ codes "13" ∷ []) ≡ None
  pub unknown : run_words_of (codes "s.toml" ∷ codes "--ticks" ∷ codes "13" ∷ codes "--fast" ∷ []) ≡ None
  pub help : run_words_of (codes "--help" ∷ []) ≡ None
  pub short_help : run_words_of (codes "s.toml" ∷ codes "--ticks" ∷ codes "13" ∷ codes "-h" ∷ []) ≡ None
  pub version : run_words_of (codes "--version" ∷ []) ≡ None
  pub two_flags : run_words_of (codes "s.toml" ∷ codes "--ticks" ∷ codes "13" ∷ codes "--hardware" ∷ codes "--hardware" ∷ []) ≡ None
  pub flag_with_value : run_words_of (codes "s.toml" ∷ codes "--ticks" ∷ codes "13" ∷ codes "--hardware=true" ∷ []) ≡ None
  pub flag_with_nothing : run_words_of (codes "s.toml" ∷ codes "--ticks" ∷ codes "13" ∷ codes "--hardware=" ∷ []) ≡ None
  pub shortened_flag : run_words_of (codes "s.toml" ∷ codes "--ticks" ∷ codes "13" ∷ codes "--hard" ∷ []) ≡ None
  pub flag_for_value : run_words_of (codes "s.toml" ∷ codes "--ticks" ∷ codes "--hardware" ∷ codes "13" ∷ []) ≡ None
  pub flag_after_dashes : run_words_of (codes "s.toml" ∷ codes "--ticks" ∷ codes "13" ∷ codes "--" ∷ codes "--hardware" ∷ []) ≡ None

-- the number 7 and 13 ticks
abbrev pub seven : Option AskedMake
seven = Some (record { number = 7; ticks = codes "13" })

-- the option behind `make` stands behind the number or before it, and its value in the next word or in the same one; the numbers
-- are those of 32 bits, with leading zeros or without; that 0 ticks are too few isn't said by the words
pub record ReadsUsualMakeWords : Type 0 where
  pub behind : make_words_of (codes "7" ∷ codes "--ticks" ∷ codes "13" ∷ []) ≡ seven
  pub before : make_words_of (codes "--ticks" ∷ codes "13" ∷ codes "7" ∷ []) ≡ seven
  pub joined : make_words_of (codes "7" ∷ codes "--ticks=13" ∷ []) ≡ seven
  pub zeros : make_words_of (codes "00000000000000000007" ∷ codes "--ticks" ∷ codes "13" ∷ []) ≡ seven
  pub least : make_words_of (codes "0" ∷ codes "--ticks" ∷ codes "13" ∷ []) ≡ Some (record { number = 0; ticks = codes "13" })
  pub greatest : make_words_of (codes "4294967295" ∷ codes "--ticks" ∷ codes "13" ∷ []) ≡ Some (record { number = 4294967295; ticks = codes "13" })
  pub no_ticks : make_words_of (codes "7" ∷ codes "--ticks" ∷ codes "0" ∷ []) ≡ Some (record { number = 7; ticks = codes "0" })

-- words of which none says a system to be made
pub record RefusesOtherMakeWords : Type 0 where
  pub nothing : make_words_of [] ≡ None
  pub too_large : make_words_of (codes "4294967296" ∷ codes "--ticks" ∷ codes "1" ∷ []) ≡ None
  pub too_long : make_words_of (codes "000000000000000000007" ∷ codes "--ticks" ∷ codes "1" ∷ []) ≡ None
  pub no_digits : make_words_of (codes "1" ∷ codes "--ticks" ∷ codes "x" ∷ []) ≡ None
  pub no_number : make_words_of (codes "seven" ∷ codes "--ticks" ∷ codes "1" ∷ []) ≡ None
  pub hexadecimal : make_words_of (codes "0x7" ∷ codes "--ticks" ∷ codes "1" ∷ []) ≡ None
  pub signed : make_words_of (codes "+7" ∷ codes "--ticks" ∷ codes "1" ∷ []) ≡ None
  pub empty : make_words_of ([] ∷ codes "--ticks" ∷ codes "1" ∷ []) ≡ None
  pub without_ticks : make_words_of (codes "7" ∷ []) ≡ None
  pub without_number : make_words_of (codes "--ticks" ∷ codes "1" ∷ []) ≡ None
  pub two_numbers : make_words_of (codes "7" ∷ codes "8" ∷ codes "--ticks" ∷ codes "1" ∷ []) ≡ None
  pub two_options : make_words_of (codes "7" ∷ codes "--ticks" ∷ codes "1" ∷ codes "--ticks" ∷ codes "1" ∷ []) ≡ None
  pub flag_of_run : make_words_of (codes "7" ∷ codes "--ticks" ∷ codes "1" ∷ codes "--hardware" ∷ []) ≡ None
  pub help : make_words_of (codes "--help" ∷ []) ≡ None
