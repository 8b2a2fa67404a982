-- Zeros behind bytes.
use Rattle.std.proofs.Common.{◌≡◌, ◌-◌, ℕ, drop, replicate}
use Rattle.std.proofs.lemmas.List.{drop-replicate}

-- what is left of 256 zeros behind the first ones
pub zeros_left : (n : ℕ) → drop n (replicate {A = ℕ} 256 0) ≡ replicate (256 - n) 0
zeros_left n = drop-replicate {X = ℕ} n 256 0
