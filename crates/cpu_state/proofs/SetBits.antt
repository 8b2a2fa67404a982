-- A set of flags has the bits that it was made from.
use Rattle.std.proofs.Common.{◌≡◌, ℕ, zero, suc, ◌*◌, ◌/◌, ◌%◌, ◌<◌, ◌==◌, arith}
use Rattle.std.proofs.Math.Nat.{div-div-eq-div-mul}
use Rattle.cpu_state.specs.Eflags.{weight, bits_of, flags_in}

-- a bit, by its weight
weight_is : (b worth : ℕ) → b < 2 → weight (b == 1) worth ≡ b * worth
weight_is zero worth h = grind arith
weight_is (suc zero) worth h = grind arith
weight_is (suc (suc b)) worth h = grind arith

pub made_from : (n : ℕ) → n < 256 → bits_of (flags_in n) ≡ n
made_from n h =
    let q1 = div-div-eq-div-mul n 2 2 in
    let q2 = div-div-eq-div-mul n 4 2 in
    let q3 = div-div-eq-div-mul n 8 2 in
    let q4 = div-div-eq-div-mul n 16 2 in
    let q5 = div-div-eq-div-mul n 32 2 in
    let q6 = div-div-eq-div-mul n 64 2 in
    rw (
      weight_is (n / 1 % 2) 1 (omega arith),
      weight_is (n / 2 % 2) 2 (omega arith),
      weight_is (n / 4 % 2) 4 (omega arith),
      weight_is (n / 8 % 2) 8 (omega arith),
      weight_is (n / 16 % 2) 16 (omega arith),
      weight_is (n / 32 % 2) 32 (omega arith),
      weight_is (n / 64 % 2) 64 (omega arith),
      weight_is (n / 128 % 2) 128 (omega arith),
    )
    (omega (arith, q1, q2, q3, q4, q5, q6))
