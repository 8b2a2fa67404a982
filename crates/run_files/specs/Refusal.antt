-- How what is made of files, words and ticks is answered: by it, by a cause with the name or the word that it is about, or by want of memory.
use Rattle.std.specs.Prelude.{◌≡◌, ◌≢◌, ◌≤◌, ℕ, List, Result, Ok, Err}
use Rattle.outside_io.specs.Causes.{Rose}
use Rattle.run_files.specs.declared.cause.Cause.{Cause}
use Rattle.run_files.specs.declared.cause.Cause.TheVariants.{Words, Ticks, Read}
use Rattle.run_files.specs.declared.cause.Refusal.{Refusal}
use Rattle.run_files.specs.declared.cause.Refusal.TheVariants.{Because, NoMemory}
use Rattle.run_files.specs.Verdict.{About}

-- a fact on the cause of a refusal and its name
abbrev pub IfRefused : {A : Type 0} → Result A Refusal → (Cause → List ℕ → Type 0) → Type 0
IfRefused (Ok made) P = Unit {0}
IfRefused (Err (Because why name)) P = P why name
IfRefused (Err NoMemory) P = Unit {0}

-- this is answered, unless memory is refused
abbrev pub Accepts : {A : Type 0} → Result A Refusal → Result A About → Type 0
Accepts (Ok made) wanted = wanted ≡ Ok made
Accepts (Err (Because why name)) wanted = wanted ≡ Err (why, name)
Accepts (Err NoMemory) wanted = Unit {0}

-- this is answered, unless a file couldn't be read or memory is refused
abbrev pub Tells : {A : Type 0} → Result A Refusal → Result A About → Type 0
Tells (Ok made) wanted = wanted ≡ Ok made
Tells (Err (Because why name)) wanted = why ≢ Read → wanted ≡ Err (why, name)
Tells (Err NoMemory) wanted = Unit {0}

-- what bytes are refused for is never the words, the ticks, or a reading that failed
abbrev pub BlamesBytes : {A : Type 0} → Result A Refusal → Type 0
BlamesBytes result = IfRefused result (λ why name. (why ≢ Read) × (why ≢ Words) × (why ≢ Ticks))

-- what a file is refused for is never the words or the ticks
abbrev pub BlamesFile : {A : Type 0} → Result A Refusal → Type 0
BlamesFile result = IfRefused result (λ why name. (why ≢ Words) × (why ≢ Ticks))

-- a fact on the name of a file that couldn't be read
abbrev pub IfUnread : {A : Type 0} → Result A Refusal → (List ℕ → Type 0) → Type 0
IfUnread result P = IfRefused result (λ why name. why ≡ Read → P name)

-- a refusal by `Read` comes only where the store's count of faults rose, and then its name failed last; nothing else raises the count
abbrev pub FaultsBy : {A : Type 0} → ℕ → ℕ → List ℕ → Result A Refusal → Type 0
FaultsBy before now last (Ok made) = now ≡ before
FaultsBy before now last (Err (Because why name)) =
    (why ≡ Read → (before ≤ now) × Rose before now × (last ≡ name)) × (why ≢ Read → now ≡ before)
FaultsBy before now last (Err NoMemory) = now ≡ before
