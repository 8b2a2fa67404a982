-- How the readers of a system file and of its fields answer.
use Rattle.std.specs.Prelude.{◌≡◌, Option, Some, None, Result, Ok, Err}
use Rattle.system_file.specs.declared.system.System.{System}
use Rattle.system_file.specs.declared.system.SystemRefusal.{SystemRefusal}
use Rattle.system_file.specs.declared.system.SystemRefusal.TheVariants.{NotToml, Field, NoMemory}

-- A field's reader gives what is to be read, and refuses exactly where there is nothing, unless memory is refused.
abbrev pub Gives : {A : Type 0} → Result A SystemRefusal → Option A → Type 0
Gives (Ok x) read = read ≡ Some x
Gives (Err NotToml) read = ⊥
Gives (Err Field) read = read ≡ None
Gives (Err NoMemory) read = Unit {0}

-- The same, of the whole.
abbrev pub ReadsSystem : Result System SystemRefusal → Result System SystemRefusal → Type 0
ReadsSystem (Err NoMemory) read = Unit {0}
ReadsSystem r read = r ≡ read
