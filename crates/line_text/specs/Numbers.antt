-- The numbers that texts of digits write.
use Rattle.std.specs.Prelude.{ℕ, ◌+◌, ◌*◌, ◌-◌, ◌^◌, List, [], ◌∷◌, length, ◌&&◌, ◌==◌, nat_le, nat_lt, if◌then◌else◌, Option, Some, None}
use Rattle.std.specs.Char.{is_ascii_digit}
use Rattle.hex.specs.Hex.{hex_digit_value}

-- the number of 64 bits that decimal digits write behind those of n
abbrev pub decimal_after : ℕ → List ℕ → Option ℕ
decimal_after n [] = if nat_lt n (2 ^ 64) then Some n else None
decimal_after n (c ∷ cs) = if is_ascii_digit c then decimal_after (n * 10 + (c - 48)) cs else None

-- the number that 1 to 20 decimal digits write
abbrev pub decimal_in : List ℕ → Option ℕ
decimal_in text = if nat_le 1 (length text) && nat_le (length text) 20 then decimal_after 0 text else None

-- the number that a digit and what comes behind it write, where it is one
abbrev pub with_digit : Option ℕ → (ℕ → Option ℕ) → Option ℕ
with_digit None rest = None
with_digit (Some d) rest = rest d

-- the number that hexadecimal digits of either case write behind those of n
abbrev pub hex_after : ℕ → List ℕ → Option ℕ
hex_after n [] = Some n
hex_after n (c ∷ cs) = with_digit (hex_digit_value c) (λ d. hex_after (n * 16 + d) cs)

-- the number that so many hexadecimal digits write
abbrev pub hex_in : ℕ → List ℕ → Option ℕ
hex_in digits text = if length text == digits then hex_after 0 text else None
