-- Words that are written into room for them.
use Rattle.std.specs.Prelude.{◌≡◌, ℕ, Bool, true, false, List, Option, Some, None}

-- all of the words that were read, or else the answer no
abbrev pub Fills : Option (List ℕ) → List ℕ → Bool → Type 0
Fills None new result = result ≡ false
Fills (Some words) new result = (result ≡ true) × (new ≡ words)
