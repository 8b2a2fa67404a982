-- Lines that a script may raise.
use Rattle.std.proofs.Common.{◌≡◌, ◌≢◌, ℕ, ◌<◌, ◌≤◌, true, arith}
use Rattle.std.proofs.lemmas.Bool.Decides.{nat_tests}
use Rattle.device_script.specs.Event.{is_line}

small_line : (n : ℕ) → is_line n ≡ true → n < 16
small_line n h = grind (arith, nat_tests)

some_line : (n : ℕ) → is_line n ≡ true → 1 ≤ n
some_line n h = grind (arith, nat_tests)

other_line : (n : ℕ) → is_line n ≡ true → n ≢ 2
other_line n h e = grind (arith, nat_tests)

pub good_line : (n : ℕ) → is_line n ≡ true → (1 ≤ n) × (n < 16) × (n ≢ 2)
good_line n h = (some_line n h, small_line n h, other_line n h)
