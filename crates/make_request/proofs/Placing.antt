-- Guest and module have their places.
use Rattle.std.proofs.Common.{◌≡◌, ℕ, List, [], ◌∷◌, ◌++◌, true, Some, Ok, refl, length}
use Rattle.std.proofs.lemmas.List.{length-replicate}
use Rattle.flat_memory.specs.Side.{side_at}
use Rattle.flat_memory.specs.Zeros.{zeros}
use Rattle.elf_loader.specs.Place.{Span, all_inside, spans_with, with_segments}
use Rattle.elf_loader.specs.declared.image.Image.{Image}
use Rattle.run_files.specs.Guest.{placing_of}
use Rattle.run_files.specs.Modules.{before_modules, real_time_side, sides_with, with_module}
use Rattle.run_files.specs.Sides.{sides_of}
use Rattle.run_files.specs.declared.modules.Loaded.{Loaded}
use Rattle.run_files.specs.declared.sides.Sides.{Sides}
use Rattle.work_maker.specs.Guest.{guest_of}
use Rattle.work_maker.specs.Made.{made_of}
use Rattle.work_maker.specs.declared.made.Made.{Made}
use Rattle.work_maker.specs.Laws.{GuestInside, GuestApart, ModuleInside, ModuleApart, guest_spans, reserved, module_spans}
use Rattle.work_maker.specs.Module.{guest_size, real_time_size, module_of}
use Rattle.make_request.specs.Placed.{GuestPlaced, HasPlace, ModulePlaced, made_loaded}

zeros_length : (n : ℕ) → length (zeros n) ≡ n
unfolding zeros
zeros_length n = length-replicate n 0

-- an image on a side of zeros
on_zeros : (bytes : List ℕ) (image : Image) (spans : List Span)
    → all_inside (side_at 0 bytes) image.segments ≡ true → spans_with [] image.segments ≡ Some spans
    → placing_of bytes image ≡ Ok ((with_segments (side_at 0 bytes) image.segments).bytes, image.entry)
unfolding placing_of
on_zeros bytes image spans inside apart = rw (inside, apart) refl

pub guest_placed : GuestInside → GuestApart → GuestPlaced
unfolding sides_of
guest_placed inside apart number =
    rw (on_zeros (zeros guest_size) (guest_of number) guest_spans (inside number (zeros guest_size) (zeros_length guest_size)) (apart number)) refl

-- an image beside what is taken
beside_taken : (loaded : Loaded) (image : Image) (taken : List Span)
    → all_inside (real_time_side loaded.sides.memory) image.segments ≡ true → spans_with loaded.taken image.segments ≡ Some taken
    → with_module loaded image ≡ Ok (record { sides = sides_with loaded.sides image; taken = taken; inits = loaded.inits ++ image.entry ∷ [] })
unfolding with_module
beside_taken loaded image taken inside apart = rw (inside, apart) refl

pub module_placed : ModuleInside → ModuleApart → ModulePlaced
module_placed inside apart number sides guest real_time =
    beside_taken (before_modules sides) (module_of number) (reserved ++ module_spans)
    (rw guest (inside number sides.memory.real_time real_time)) (rw (guest, real_time) (apart number))

-- what was made has its place where it is asked for
pub has_place : (number ticks : ℕ) (sides : Sides) (before : Loaded) (made : Made) → ModulePlaced → before ≡ before_modules sides
    → made ≡ made_of number ticks → length sides.memory.guest ≡ guest_size → length sides.memory.real_time ≡ real_time_size
    → HasPlace (with_module before made.«module»)
has_place number ticks sides before made placed is made_is guest real_time =
    (made_loaded sides number, rw (is, made_is) (placed number sides guest real_time))
