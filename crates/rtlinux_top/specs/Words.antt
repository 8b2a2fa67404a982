-- What the words of the command line ask for.
use Rattle.std.specs.Prelude.{ℕ, List, [], ◌∷◌, ◌&&◌, if◌then◌else◌, codes, Option, Some, None, String, string_bytes, map}
use Rattle.std.specs.declared.alloc.Global.{Global}
use Rattle.outside_io.specs.Memory.{same_bytes}
use Rattle.outside_io.specs.Names.{is_name}
use Rattle.command_words.specs.Make.{AskedMake, make_words_of}
use Rattle.command_words.specs.Run.{AskedRun, run_words_of}
use Rattle.command_words.specs.Values.{is_number}

-- nothing that there is; the run of a flat image, with the word of its ticks; the run of a system; or that of a system made of a number
pub data Asked : Type 0 where
  Unknown : Asked
  Flat : (image ticks : List ℕ) → Asked
  System : (run : AskedRun) → Asked
  Made : (make : AskedMake) → Asked

-- behind `flat`: a name and a number
abbrev pub flat_asked : List (List ℕ) → Asked
flat_asked (image ∷ ticks ∷ []) = if is_name image && is_number ticks then Flat image ticks else Unknown
flat_asked words = Unknown

-- behind `run`: what that command takes
abbrev pub run_asked : Option AskedRun → Asked
run_asked None = Unknown
run_asked (Some run) = System run

-- behind `make`: what that command takes
abbrev pub make_asked : Option AskedMake → Asked
make_asked None = Unknown
make_asked (Some make) = Made make

-- the first word is the command
unfoldable pub asked_of : List (List ℕ) → Asked
asked_of [] = Unknown
asked_of (command ∷ words) =
    if same_bytes command (codes "flat") then flat_asked words
    else if same_bytes command (codes "run") then run_asked (run_words_of words)
    else if same_bytes command (codes "make") then make_asked (make_words_of words)
    else Unknown

-- the bytes of each word
abbrev pub texts : List (String Global) → List (List ℕ)
texts words = map string_bytes words

-- what the words of the command line ask for
abbrev pub command_of : List (String Global) → Asked
command_of words = asked_of (texts words)
