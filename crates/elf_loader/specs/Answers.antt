-- How the reader of a file and its parts answer.
use Rattle.std.specs.Prelude.{◌≡◌, ◌≤◌, ◌<◌, ◌+◌, ◌*◌, length, ℕ, List, ◌++◌, Option, Some, None, Result, Ok, Err}
use Rattle.elf_loader.specs.File.{e_phoff, e_phnum}
use Rattle.elf_loader.specs.declared.image.Image.{Image}
use Rattle.elf_loader.specs.declared.image.Segment.{Segment}
use Rattle.elf_loader.specs.declared.image.ElfRefusal.{ElfRefusal}
use Rattle.elf_loader.specs.declared.image.ElfRefusal.TheVariants.{Bad, NoMemory}

-- this, unless memory is refused
abbrev pub ReadsImage : Result Image ElfRefusal → Result Image ℕ → Type 0
ReadsImage (Ok image) held = held ≡ Ok image
ReadsImage (Err (Bad k)) held = held ≡ Err k
ReadsImage (Err NoMemory) held = Unit {0}

-- a test answers by the fault that there is
abbrev pub Tests : Result (Unit {0}) ElfRefusal → Option ℕ → Type 0
Tests (Ok u) fault = fault ≡ None
Tests (Err (Bad k)) fault = fault ≡ Some k
Tests (Err NoMemory) fault = ⊥

-- what is made, unless memory is refused
abbrev pub MakesSegments : Result (List Segment) ElfRefusal → List Segment → Type 0
MakesSegments (Ok made) wanted = made ≡ wanted
MakesSegments (Err (Bad k)) wanted = ⊥
MakesSegments (Err NoMemory) wanted = Unit {0}

-- what is added at the end, unless memory is refused
abbrev pub AddsSegments : List Segment → List Segment → Result (Unit {0}) ElfRefusal → List Segment → Type 0
AddsSegments old new (Ok u) more = new ≡ old ++ more
AddsSegments old new (Err (Bad k)) more = ⊥
AddsSegments old new (Err NoMemory) more = Unit {0}

-- a file with a good file header has room for its table
pub record HasTable (bytes : List ℕ) : Type 0 where
  pub long : 52 ≤ length bytes
  pub few : e_phnum bytes ≤ 64
  pub inside : 0 < e_phnum bytes → e_phoff bytes + 32 * e_phnum bytes ≤ length bytes
