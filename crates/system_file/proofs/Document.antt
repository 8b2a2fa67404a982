-- What bytes hold, by what is known of them.
use Rattle.std.proofs.Common.{◌≡◌, ℕ, List, Option, Some, None, Result, Ok, Err, refl, inl, inr}
use Rattle.std.specs.Str.{IsUtf8, is_utf8}
use Rattle.std.proofs.lemmas.Bool.{cases_Bool}
use Rattle.std.proofs.lemmas.Str.{IsUtf8-from_is_utf8, is_utf8-from_IsUtf8}
use Rattle.toml.specs.Data.{Members}
use Rattle.toml.specs.Parse.{parse_document}
use Rattle.system_file.specs.Answers.{Gives, ReadsSystem}
use Rattle.system_file.specs.Fields.{system_of}
use Rattle.system_file.specs.Read.{accepted, system_of_file}
use Rattle.system_file.specs.declared.system.System.{System}
use Rattle.system_file.specs.declared.system.SystemRefusal.{SystemRefusal}
use Rattle.system_file.specs.declared.system.SystemRefusal.TheVariants.{NotToml, Field, NoMemory}

-- bytes that aren't UTF-8, or that are no document
pub read_of_refused : (bytes : List ℕ) → (IsUtf8 bytes → parse_document bytes ≡ None) → Err NotToml ≡ system_of_file bytes
unfolding system_of_file
read_of_refused bytes none = elim (cases_Bool (is_utf8 bytes)) [
  | inl text ↦ rw (text, none (IsUtf8-from_is_utf8 bytes text)) refl
  | inr other ↦ rw other refl
]

accepted_answers : (r : Result System SystemRefusal) (read : Option System) → Gives r read → ReadsSystem r (accepted read)
accepted_answers (Ok s) read h = rw h refl
accepted_answers (Err NotToml) read h = absurd h
accepted_answers (Err Field) read h = rw h refl
accepted_answers (Err NoMemory) read h = tt

pub read_of_document : (bytes : List ℕ) (ms : Members) (r : Result System SystemRefusal) → IsUtf8 bytes → parse_document bytes ≡ Some ms
    → Gives r (system_of ms) → ReadsSystem r (system_of_file bytes)
unfolding system_of_file
read_of_document bytes ms r u e h = rw (is_utf8-from_IsUtf8 bytes u, e) (accepted_answers r (system_of ms) h)
