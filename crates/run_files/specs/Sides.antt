-- Both sides as a run starts.
use Rattle.std.specs.Prelude.{◌≡◌, ℕ, Result, Ok, Err}
use Rattle.flat_memory.specs.Zeros.{zeros}
use Rattle.elf_loader.specs.declared.image.Image.{Image}
use Rattle.elf_loader.specs.declared.placing.PlaceRefusal.{PlaceRefusal}
use Rattle.elf_loader.specs.declared.placing.PlaceRefusal.TheVariants.{Outside, Overlap, NoMemory}
use Rattle.run_files.specs.declared.sides.Sides.{Sides}
use Rattle.run_files.specs.Guest.{Misfit, PartOutside, PartsOverlap, GuestSide, placing_of}
use Rattle.run_files.specs.Stub.{stub_stored}

-- the guest's side with an image, and beside it a real-time side of r bytes with its stub
abbrev pub beside_stub : ℕ → Result GuestSide Misfit → Result Sides Misfit
beside_stub r (Ok (guest, entry)) = Ok (record { memory = record { guest = guest; real_time = stub_stored (zeros r) }; entry = entry })
beside_stub r (Err misfit) = Err misfit

-- zeros on both sides, with the image on the guest's side of g bytes and the stub on the real-time side of r bytes
unfoldable pub sides_of : ℕ → ℕ → Image → Result Sides Misfit
sides_of g r image = beside_stub r (placing_of (zeros g) image)

-- a maker answers this, unless memory is refused
abbrev pub MakesSides : Result Sides PlaceRefusal → Result Sides Misfit → Type 0
MakesSides (Ok sides) wanted = wanted ≡ Ok sides
MakesSides (Err Outside) wanted = wanted ≡ Err PartOutside
MakesSides (Err Overlap) wanted = wanted ≡ Err PartsOverlap
MakesSides (Err NoMemory) wanted = Unit {0}
