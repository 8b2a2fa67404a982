-- Bytes with zeros behind them: what the Model of `Said` cites, and so it stands here rather than among the proofs.
use Rattle.std.proofs.Common.{◌≡◌, ◌≤◌, ◌-◌, ◌++◌, ℕ, List, take, drop, length, replicate, take-append-drop, length-take-le, arith}

pub taken : (n : ℕ) (bytes : List ℕ) → n ≤ 256 → length bytes ≡ 256 → length (take n bytes) ≡ n
taken n bytes few full = length-take-le n bytes (omega (arith, few, full))

-- the bytes before the zeros give all of them back
pub padded : (n : ℕ) (bytes : List ℕ) → n ≤ 256 → length bytes ≡ 256 → drop n bytes ≡ replicate (256 - n) 0
    → take n bytes ++ replicate (256 - length (take n bytes)) 0 ≡ bytes
padded n bytes few full zeros = rw (taken n bytes few full, ← zeros) (take-append-drop n bytes)
