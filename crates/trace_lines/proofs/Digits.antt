-- How long the texts of numbers and bytes are.
use Rattle.std.proofs.Common.{◌≡◌, ◌≤◌, ℕ, List, [], ◌∷◌, length, arith}
use Rattle.std.specs.Int.{bytes_high_first}
use Rattle.hex.proofs.HexLemmas.{length-encode_with}
use Rattle.hex.specs.Hex.{lower_digits}
use Rattle.line_text.specs.LineText.{hex_text, bytes_text}

pub length-doubleword : (n : ℕ) → length (hex_text 8 n) ≡ 8
unfolding hex_text
length-doubleword n = length-encode_with lower_digits (bytes_high_first 4 n)

pub length-word : (n : ℕ) → length (hex_text 4 n) ≡ 4
unfolding hex_text
length-word n = length-encode_with lower_digits (bytes_high_first 2 n)

pub length-two : (n : ℕ) → length (hex_text 2 n) ≡ 2
unfolding hex_text
length-two n = length-encode_with lower_digits (bytes_high_first 1 n)

pub length-bytes : (bytes : List ℕ) → length bytes ≤ 256 → length (bytes_text bytes) ≤ 512
length-bytes [] few = omega arith
length-bytes (byte ∷ bytes) few = let long = length-encode_with lower_digits (byte ∷ bytes) in omega (arith, long)
