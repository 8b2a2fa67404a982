-- What is made of each number has its place: no part is outside its side, and no two share a byte.
use Rattle.std.specs.Prelude.{◌≡◌, ℕ, [], ◌∷◌, ◌++◌, length, Result, Ok}
use Rattle.run_files.specs.Guest.{Misfit}
use Rattle.run_files.specs.Modules.{before_modules, sides_with, with_module}
use Rattle.run_files.specs.Sides.{sides_of}
use Rattle.run_files.specs.declared.modules.Loaded.{Loaded}
use Rattle.run_files.specs.declared.sides.Sides.{Sides}
use Rattle.work_maker.specs.Guest.{guest_of}
use Rattle.work_maker.specs.Laws.{reserved, module_spans}
use Rattle.work_maker.specs.Module.{guest_size, real_time_size, module_of}
use Rattle.make_request.specs.Made.{guest_sides}

-- a placing that isn't refused
abbrev pub HasPlace : {A : Type 0} → Result A Misfit → Type 0
HasPlace {A} wanted = (placed : A) × (wanted ≡ Ok placed)

-- the guest on its side
abbrev pub GuestPlaced : Type 0
GuestPlaced = (number : ℕ) → sides_of guest_size real_time_size (guest_of number) ≡ Ok (guest_sides (guest_of number))

-- what there is behind the module of a number: its range is taken beside the reserved ones, and its entry is the only init
abbrev pub made_loaded : Sides → ℕ → Loaded
made_loaded sides number = record {
  sides = sides_with sides (module_of number);
  taken = reserved ++ module_spans;
  inits = (module_of number).entry ∷ [];
}

-- the module behind a guest's side, beside what is reserved
abbrev pub ModulePlaced : Type 0
ModulePlaced = (number : ℕ) (sides : Sides) → length sides.memory.guest ≡ guest_size → length sides.memory.real_time ≡ real_time_size
    → with_module (before_modules sides) (module_of number) ≡ Ok (made_loaded sides number)
