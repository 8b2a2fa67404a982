-- What a run is that is accepted, and the files that are fetched for one.
use Rattle.std.specs.Prelude.{◌≡◌, ◌≤◌, ◌⊎◌, ℕ, true, List, [], ◌∷◌, length, Some, Result, Ok, Err}
use Rattle.outside_io.specs.Store.{Files}
use Rattle.system_file.specs.Fields.{is_version}
use Rattle.system_file.specs.declared.system.System.{System}
use Rattle.device_script.specs.Event.{IsScript}
use Rattle.run_files.specs.declared.modules.Loaded.{Loaded}
use Rattle.run_files.specs.declared.run.AcceptedRun.{AcceptedRun}
use Rattle.run_files.specs.declared.sides.Sides.{Sides}
use Rattle.run_files.specs.Files.{system_in, sides_in, module_in}
use Rattle.run_files.specs.Modules.{before_modules}
use Rattle.run_files.specs.Verdict.{About, made_of_file, modules_loaded}

-- what a run is that is accepted: the sizes of its sides, the number of its inits, a version that there is, and the rules of its script
pub record IsReady (run : AcceptedRun) : Type 0 where
  pub guest : (65536 ≤ length run.sides.memory.guest) × (length run.sides.memory.guest ≤ 16777216)
  pub real_time : (65536 ≤ length run.sides.memory.real_time) × (length run.sides.memory.real_time ≤ 4194304)
  pub inits : length run.inits ≤ 16
  pub version : is_version run.version ≡ true
  pub script : IsScript run.script.events

-- what stands behind an accepted file
abbrev pub Behind : {A : Type 0} → Result A About → (A → Type 0) → Type 0
Behind (Ok x) P = P x
Behind (Err e) P = ⊥

-- the files that are fetched, each where all before it are accepted: first of the modules
abbrev pub NamesModule : Files → Loaded → List (List ℕ) → List ℕ → Type 0
NamesModule files loaded [] name = ⊥
NamesModule files loaded (first ∷ rest) name =
    (name ≡ first) ⊎ Behind (made_of_file (module_in loaded) files first) (λ next. NamesModule files next rest name)

-- the script behind the modules
abbrev pub NamesScript : System → Sides → Files → List ℕ → Type 0
NamesScript system sides files name = Behind (modules_loaded files (before_modules sides) system.modules) (λ loaded. system.script ≡ Some name)

-- the modules and what comes behind them
abbrev pub NamesModules : System → Sides → Files → List ℕ → Type 0
NamesModules system sides files name = NamesModule files (before_modules sides) system.modules name ⊎ NamesScript system sides files name

-- the image and what comes behind it
abbrev pub NamesImage : System → Files → List ℕ → Type 0
NamesImage system files name =
    (name ≡ system.image) ⊎ Behind (made_of_file (sides_in system) files system.image) (λ sides. NamesModules system sides files name)

-- the system file and what comes behind it
abbrev pub NamesFile : List ℕ → Files → List ℕ → Type 0
NamesFile system files name = (name ≡ system) ⊎ Behind (made_of_file system_in files system) (λ s. NamesImage s files name)
