-- What a call of a store tells.
use Rattle.std.specs.Prelude.{◌≡◌, ◌≤◌, ◌<◌, ℕ, List, length, Option, Some, None, Result, Ok, Err, IfSome, IfOk}
use Rattle.outside_io.specs.declared.store.Fetched.{Fetched}
use Rattle.outside_io.specs.declared.store.Fetched.TheVariants.{Bytes, Larger}
use Rattle.outside_io.specs.declared.store.StoreFault.{StoreFault}
use Rattle.outside_io.specs.declared.store.StoreFault.TheVariants.{Failed, NoMemory}
use Rattle.outside_io.specs.Causes.{Rose}

-- what each name holds
abbrev pub Files : Type 0
Files = List ℕ → Option (List ℕ)

-- a fetch of a name that holds this, up to a limit
abbrev pub Fetches : Option (List ℕ) → ℕ → Fetched → Type 0
Fetches None limit got = ⊥
Fetches (Some bytes) limit (Bytes content) = (content ≡ bytes) × (length bytes ≤ limit)
Fetches (Some bytes) limit Larger = limit < length bytes

-- an Ok is what the name holds, where the store tells
abbrev pub TellsHeld : Option Files → List ℕ → ℕ → Result Fetched StoreFault → Type 0
TellsHeld held name limit result = IfSome held (λ files. IfOk result (λ got. Fetches (files name) limit got))

-- a fault comes only where the count rose, and then this name failed last; nothing else raises it
abbrev pub FetchCause : ℕ → ℕ → List ℕ → List ℕ → List ℕ → Result Fetched StoreFault → Type 0
FetchCause before now last_before last_now name (Ok got) = (now ≡ before) × (last_now ≡ last_before)
FetchCause before now last_before last_now name (Err Failed) = (before ≤ now) × Rose before now × (last_now ≡ name)
FetchCause before now last_before last_now name (Err NoMemory) = (now ≡ before) × (last_now ≡ last_before)
