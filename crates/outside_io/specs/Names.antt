-- Names of files.
use Rattle.std.specs.Prelude.{◌≤◌, ℕ, List, length, nat_le, Bool, ◌&&◌}

-- a name has 1 to 255 bytes
abbrev pub is_name : List ℕ → Bool
is_name text = nat_le 1 (length text) && nat_le (length text) 255

-- the same, as a fact
abbrev pub IsName : List ℕ → Type 0
IsName text = (1 ≤ length text) × (length text ≤ 255)
