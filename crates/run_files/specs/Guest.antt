-- The guest's side with an image on it.
use Rattle.std.specs.Prelude.{◌≡◌, ℕ, List, [], if◌then◌else◌, Option, Some, None, Result, Ok, Err}
use Rattle.flat_memory.specs.Side.{side_at}
use Rattle.elf_loader.specs.Place.{Span, all_inside, spans_with, with_segments}
use Rattle.elf_loader.specs.declared.image.Image.{Image}
use Rattle.elf_loader.specs.declared.placing.PlaceRefusal.{PlaceRefusal}
use Rattle.elf_loader.specs.declared.placing.PlaceRefusal.TheVariants.{Outside, Overlap, NoMemory}

-- why an image doesn't fit: a part of it isn't wholly on the side, or all are and two share a byte
pub data Misfit : Type 0 where
  PartOutside : Misfit
  PartsOverlap : Misfit

-- the bytes of the side, and the address of the first instruction
abbrev pub GuestSide : Type 0
GuestSide = List ℕ × ℕ

abbrev pub if_apart : Option (List Span) → GuestSide → Result GuestSide Misfit
if_apart None placed = Err PartsOverlap
if_apart (Some spans) placed = Ok placed

-- an image over bytes from address 0 on, of which none is reserved
unfoldable pub placing_of : List ℕ → Image → Result GuestSide Misfit
placing_of bytes image =
    if all_inside (side_at 0 bytes) image.segments
    then if_apart (spans_with [] image.segments) ((with_segments (side_at 0 bytes) image.segments).bytes, image.entry)
    else Err PartOutside

-- how a placing answers, and what bytes it leaves: a refusal leaves them as they were
abbrev pub PlacesOnGuest : List ℕ → Image → List ℕ → Result ℕ PlaceRefusal → Type 0
PlacesOnGuest old image new (Ok entry) = placing_of old image ≡ Ok (new, entry)
PlacesOnGuest old image new (Err Outside) = (placing_of old image ≡ Err PartOutside) × (new ≡ old)
PlacesOnGuest old image new (Err Overlap) = (placing_of old image ≡ Err PartsOverlap) × (new ≡ old)
PlacesOnGuest old image new (Err NoMemory) = new ≡ old
