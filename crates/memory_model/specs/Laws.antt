-- What loads and stores of words keep.
use Rattle.std.specs.Prelude.{◌≡◌, ◌<◌, ◌≤◌, ◌⊎◌, ℕ, ◌+◌, ◌-◌, ◌^◌, length, slice_index, IsTrue}
use Rattle.byteorder.specs.Endian.{little_bytes}
use Rattle.memory_model.specs.Side.{Side, inside, word_at, word_stored, stored}

abbrev pub ReadsBack : Type 0
ReadsBack = (side : Side) (at n x : ℕ) → IsTrue (inside side at n) → x < 256 ^ n → word_at (word_stored side at n x) at n ≡ x

-- the size and the first address of a side after a store
pub record SamePlace (old new : Side) : Type 0 where
  pub first : new.first ≡ old.first
  pub size : length new.bytes ≡ length old.bytes

abbrev pub KeepsPlace : Type 0
KeepsPlace = (side : Side) (at n x : ℕ) → IsTrue (inside side at n) → SamePlace side (word_stored side at n x)

-- the byte at an address a, before or behind the range
abbrev pub KeepsOthers : Type 0
KeepsOthers = (side : Side) (at n x a : ℕ) → IsTrue (inside side at n) → side.first ≤ a → (a < at) ⊎ (at + n ≤ a)
    → slice_index (word_stored side at n x).bytes (a - side.first) ≡ slice_index side.bytes (a - side.first)

abbrev pub StoresBytes : Type 0
StoresBytes = (side : Side) (at n x : ℕ) → word_stored side at n x ≡ stored side at (little_bytes n x)
