-- The files of a run: what the bytes of each make, or why they are refused.
use Rattle.std.specs.Prelude.{◌≡◌, ◌≤◌, ◌^◌, ℕ, true, List, length, All, IfSome, Option, Some, None, Result, Ok, Err}
use Rattle.outside_io.specs.Names.{IsName}
use Rattle.toml.specs.Data.{Members}
use Rattle.system_file.specs.declared.system.System.{System}
use Rattle.system_file.specs.Fields.{is_version, system_of}
use Rattle.system_file.specs.Read.{document_of}
use Rattle.elf_loader.specs.declared.image.Image.{Image}
use Rattle.elf_loader.specs.File.{image_of}
use Rattle.run_files.specs.declared.sides.Sides.{Sides}
use Rattle.run_files.specs.declared.modules.Loaded.{Loaded}
use Rattle.run_files.specs.Guest.{Misfit, PartOutside, PartsOverlap}
use Rattle.run_files.specs.Modules.{with_module}
use Rattle.run_files.specs.Sides.{sides_of}
use Rattle.device_script.specs.declared.script.Script.{Script}
use Rattle.device_script.specs.Event.{Events}
use Rattle.device_script.specs.Script.{script_of}
use Rattle.run_files.specs.declared.cause.Cause.{Cause}
use Rattle.run_files.specs.declared.cause.Cause.TheVariants as cause

-- the most bytes of a file: 33,554,432
abbrev pub file_limit : ℕ
file_limit = 2 ^ 25

-- The system file

abbrev pub fields_in : Option System → Result System Cause
fields_in None = Err cause.Field
fields_in (Some system) = Ok system

abbrev pub members_in : Option Members → Result System Cause
members_in None = Err cause.Document
members_in (Some members) = fields_in (system_of members)

-- first that there is a document (TOML 1.1), then its fields
unfoldable pub system_in : List ℕ → Result System Cause
system_in bytes = members_in (document_of bytes)

-- what the fields of an accepted system keep
pub record IsAccepted (system : System) : Type 0 where
  pub version : is_version system.version ≡ true
  pub image : IsName system.image
  pub script : IfSome system.script IsName
  pub guest : (65536 ≤ system.guest_memory) × (system.guest_memory ≤ 16777216)
  pub real_time : (65536 ≤ system.real_time_memory) × (system.real_time_memory ≤ 4194304)
  pub modules : All IsName system.modules
  pub few : length system.modules ≤ 16

-- Images

abbrev pub fitted : {A : Type 0} → Result A Misfit → Result A Cause
fitted (Ok placed) = Ok placed
fitted (Err PartOutside) = Err cause.Outside
fitted (Err PartsOverlap) = Err cause.Overlap

-- first that a file is an image (ELF32), then that it fits
abbrev pub placed_by : {A : Type 0} → (Image → Result A Misfit) → Result Image ℕ → Result A Cause
placed_by place (Ok image) = fitted (place image)
placed_by place (Err rule) = Err (cause.Image rule)

-- both sides, of the sizes that the system has, with the guest's image
unfoldable pub sides_in : System → List ℕ → Result Sides Cause
sides_in system bytes = placed_by (sides_of system.guest_memory system.real_time_memory) (image_of bytes)

-- one more module
unfoldable pub module_in : Loaded → List ℕ → Result Loaded Cause
module_in loaded bytes = placed_by (with_module loaded) (image_of bytes)

-- The script

abbrev pub events_in : Result Events ℕ → Result Script Cause
events_in (Ok events) = Ok (record { events = events })
events_in (Err line) = Err (cause.Line line)

unfoldable pub script_in : List ℕ → Result Script Cause
script_in bytes = events_in (script_of bytes)
