-- The modules of a run, which are placed on the real-time side one after another.
use Rattle.std.specs.Prelude.{◌≡◌, List, [], ◌∷◌, ◌++◌, length, if◌then◌else◌, Option, Some, None, Result, Ok, Err}
use Rattle.memory_model.specs.Side.{Side}
use Rattle.flat_memory.specs.Parts.{Parts}
use Rattle.flat_memory.specs.Side.{side_at}
use Rattle.elf_loader.specs.Place.{Span, all_inside, spans_with, with_segments}
use Rattle.elf_loader.specs.declared.image.Image.{Image}
use Rattle.elf_loader.specs.declared.placing.PlaceRefusal.{PlaceRefusal}
use Rattle.elf_loader.specs.declared.placing.PlaceRefusal.TheVariants.{Outside, Overlap, NoMemory}
use Rattle.run_files.specs.declared.modules.Loaded.{Loaded}
use Rattle.run_files.specs.declared.sides.Sides.{Sides}
use Rattle.run_files.specs.Guest.{Misfit, PartOutside, PartsOverlap}
use Rattle.run_files.specs.Stub.{reserved_of}

-- the real-time side, whose first address is the guest's size
abbrev pub real_time_side : Parts → Side
real_time_side memory = side_at (length memory.guest) memory.real_time

-- before the first module: the reserved ranges are taken, and there is no init
abbrev pub before_modules : Sides → Loaded
before_modules sides = record { sides = sides; taken = reserved_of (length sides.memory.guest) (length sides.memory.real_time); inits = [] }

-- the sides with an image on the real-time side
abbrev pub sides_with : Sides → Image → Sides
sides_with sides image = record sides {
  memory = record sides.memory { real_time = (with_segments (real_time_side sides.memory) image.segments).bytes };
}

-- with the ranges that are taken then, where no two share a byte, and with the entry behind those of the modules before
abbrev pub if_room : Loaded → Image → Option (List Span) → Result Loaded Misfit
if_room loaded image None = Err PartsOverlap
if_room loaded image (Some taken) = Ok (record { sides = sides_with loaded.sides image; taken = taken; inits = loaded.inits ++ image.entry ∷ [] })

-- one more module
unfoldable pub with_module : Loaded → Image → Result Loaded Misfit
with_module loaded image =
    if all_inside (real_time_side loaded.sides.memory) image.segments
    then if_room loaded image (spans_with loaded.taken image.segments)
    else Err PartOutside

-- a maker answers this, unless memory is refused
abbrev pub LoadsModule : Result Loaded PlaceRefusal → Result Loaded Misfit → Type 0
LoadsModule (Ok loaded) wanted = wanted ≡ Ok loaded
LoadsModule (Err Outside) wanted = wanted ≡ Err PartOutside
LoadsModule (Err Overlap) wanted = wanted ≡ Err PartsOverlap
LoadsModule (Err NoMemory) wanted = Unit {0}
