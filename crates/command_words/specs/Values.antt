-- The numbers among the words.
use Rattle.std.specs.Prelude.{ℕ, List, length, Bool, ◌&&◌, ◌^◌, nat_le, nat_lt, if◌then◌else◌, Option, Some, None}
use Rattle.std.specs.Option.{option_and_then}
use Rattle.std.specs.List.{list_all}
use Rattle.std.specs.Char.{is_ascii_digit}
use Rattle.line_text.specs.Numbers.{decimal_in}

-- 1 to 20 decimal digits
abbrev pub is_number : List ℕ → Bool
is_number text = nat_le 1 (length text) && (nat_le (length text) 20 && list_all is_ascii_digit text)

-- the limit of ticks
abbrev pub within_limit : ℕ → Option ℕ
within_limit n = if nat_le 1 n && nat_le n 1000000000 then Some n else None

-- the ticks, where they are 1 to the limit
abbrev pub ticks_of : List ℕ → Option ℕ
ticks_of text = option_and_then within_limit (decimal_in text)

-- a number of 32 bits
abbrev pub within_word : ℕ → Option ℕ
within_word n = if nat_lt n (2 ^ 32) then Some n else None

-- the number that a system is made from: 1 to 20 decimal digits that write one below 2 ^ 32
abbrev pub number_of : List ℕ → Option ℕ
number_of text = option_and_then within_word (decimal_in text)
