-- A side of memory: bytes from a first address on, and the little-endian words in them (Intel 80386 manual, section 2.2).
use Rattle.std.specs.Prelude.{ℕ, ◌+◌, ◌-◌, ◌==◌, nat_le, Bool, ◌&&◌, ◌||◌, List, [], ◌++◌, length, take, drop, if◌then◌else◌, Option, Some, None}
use Rattle.byteorder.specs.Endian.{little_number, little_bytes}

pub record Side : Type 0 where
  pub first : ℕ
  pub bytes : List ℕ

-- whether the n bytes from an address on, of which there is one at least, are all on the side
abbrev pub inside : Side → ℕ → ℕ → Bool
inside side at n = nat_le side.first at && nat_le (at + n) (side.first + length side.bytes)

-- whether a range of n bytes, which may be empty, is on the side
abbrev pub covers : Side → ℕ → ℕ → Bool
covers side at n = n == 0 || inside side at n

-- the n bytes from an address on
abbrev pub bytes_at : Side → ℕ → ℕ → List ℕ
bytes_at side at n = take n (drop (at - side.first) side.bytes)

-- the bytes from an address on that are on the side, at most n
abbrev pub bytes_from : Side → ℕ → ℕ → List ℕ
bytes_from side at n = if nat_le side.first at then bytes_at side at n else []

-- the word of n bytes at an address, the lowest byte first
abbrev pub word_at : Side → ℕ → ℕ → ℕ
word_at side at n = little_number n (drop (at - side.first) side.bytes)

-- the side with these bytes from an address on
abbrev pub stored : Side → ℕ → List ℕ → Side
stored side at bytes = record side {
  bytes = take (at - side.first) side.bytes ++ (bytes ++ drop (at - side.first + length bytes) side.bytes);
}

-- the side with the low n bytes of a number from an address on, the lowest first
abbrev pub word_stored : Side → ℕ → ℕ → ℕ → Side
word_stored side at n x = record side {
  bytes = take (at - side.first) side.bytes ++ (little_bytes n x ++ drop (at - side.first + n) side.bytes);
}

-- the word of n bytes at an address, where it is on the side
abbrev pub loaded : Side → ℕ → ℕ → Option ℕ
loaded side at n = if inside side at n then Some (word_at side at n) else None

-- the side after a store of a word, which changes nothing where a byte of it is outside
abbrev pub stored_inside : Side → ℕ → ℕ → ℕ → Side
stored_inside side at n x = if inside side at n then word_stored side at n x else side

-- the first of the n bytes from an address on that is outside; a range of no bytes has none
unfoldable pub first_outside : Side → ℕ → ℕ → Option ℕ
first_outside side at n =
    if n == 0 then None
    else if inside side at n then None
    else if inside side at 1 then Some (side.first + length side.bytes)
    else Some at
