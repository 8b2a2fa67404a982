-- What is appended to the text of a line.
use Rattle.std.specs.Prelude.{◌≡◌, ℕ, ◌+◌, ◌/◌, List, [], ◌∷◌, ◌++◌, length, Bool, nat_le, if◌then◌else◌, codes}
use Rattle.std.specs.Int.{bytes_high_first}
use Rattle.hex.specs.Hex.{encode_lower}

-- the text is appended where it fits, and else nothing changes
pub record Pushes (old new text : List ℕ) (result : Bool) : Type 0 where
  pub fits : result ≡ nat_le (length old + length text) 640
  pub pushed : new ≡ (if result then old ++ text else old)

-- so many hexadecimal digits of a number in lower case, the highest first: two for each of its low bytes
unfoldable pub hex_text : ℕ → ℕ → List ℕ
hex_text digits n = encode_lower (bytes_high_first (digits / 2) n)

-- two hexadecimal digits for each byte, or a dash for none
abbrev pub bytes_text : List ℕ → List ℕ
bytes_text [] = codes "-"
bytes_text (byte ∷ bytes) = encode_lower (byte ∷ bytes)
