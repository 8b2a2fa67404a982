-- What holds of the pair over several calls.
use Rattle.std.specs.Prelude.{◌≡◌, ◌≢◌, ℕ, Bool, true, false, not, ◌||◌, ◌&&◌, ◌==◌, nat_lt, Some, if◌then◌else◌}
use Rattle.line_sets.specs.LineSet.{has, first_in}
use Rattle.pic_8259.specs.Chip.{is_set}
use Rattle.pic_8259.specs.Controllers.{Controllers, IsPair, latch_of, request_of, after_acknowledge, risen, written}
use Rattle.pic_8259.specs.Boot.{IsBooted, acknowledge_order}

-- a pair as after the boot requests the first of its latched lines in the order 0, 1, 8 to 15, 3 to 7
abbrev pub RequestsInOrder : Type 0
RequestsInOrder = (p : Controllers) → IsPair p → IsBooted p → request_of p ≡ first_in acknowledge_order (latch_of p)

-- is it an ICW1 for the chip of this line?
abbrev pub is_icw1_of : ℕ → ℕ → ℕ → Bool
is_icw1_of line port v = is_set v 0x10 && port == (if nat_lt line 8 then 0x20 else 0xA0)

-- a latched line stays latched until it is acknowledged or ICW1 is written to its chip
pub record StaysLatched (p : Controllers) (line : ℕ) : Type 0 where
  pub risen_kept : (n : ℕ) → has (latch_of (risen n p)) line ≡ true
  pub acknowledged_kept : request_of p ≢ Some line → has (latch_of (after_acknowledge (request_of p) p)) line ≡ true
  pub written_kept : (port v : ℕ) → is_icw1_of line port v ≡ false → has (latch_of (written port v p)) line ≡ true

abbrev pub KeepsLatches : Type 0
KeepsLatches = (p : Controllers) (line : ℕ) → IsPair p → has (latch_of p) line ≡ true → StaysLatched p line

-- a rise of a line other than the cascade's latches it, and latches no other
abbrev pub LatchesRises : Type 0
LatchesRises = (p : Controllers) (n line : ℕ) → IsPair p → has (latch_of (risen n p)) line ≡ (has (latch_of p) line || (line == n && not (n == 2)))
