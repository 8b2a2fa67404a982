-- A system file: the bytes of a TOML document whose fields are all there, right and known.
use Rattle.std.specs.Prelude.{ℕ, List, if◌then◌else◌, Option, Some, None, Result, Ok, Err}
use Rattle.std.specs.Str.{is_utf8}
use Rattle.toml.specs.Data.{Members}
use Rattle.toml.specs.Parse.{parse_document}
use Rattle.system_file.specs.Fields.{system_of}
use Rattle.system_file.specs.declared.system.System.{System}
use Rattle.system_file.specs.declared.system.SystemRefusal.{SystemRefusal}
use Rattle.system_file.specs.declared.system.SystemRefusal.TheVariants.{NotToml, Field}

-- the document: none where the bytes aren't UTF-8
abbrev pub document_of : List ℕ → Option Members
document_of bytes = if is_utf8 bytes then parse_document bytes else None

abbrev pub accepted : Option System → Result System SystemRefusal
accepted None = Err Field
accepted (Some s) = Ok s

abbrev pub system_of_document : Option Members → Result System SystemRefusal
system_of_document None = Err NotToml
system_of_document (Some ms) = accepted (system_of ms)

-- the system that the bytes hold, or why they hold none
unfoldable pub system_of_file : List ℕ → Result System SystemRefusal
system_of_file bytes = system_of_document (document_of bytes)
