use Rattle.std.proofs.Common.{arith, ◌^◌, ◌≤◌, lit<}
use Rattle.std.proofs.Math.Nat.{pow-le-pow_right}
use Rattle.line_text.proofs.numbers.hex_digits.Goals as goal

pub overflow_mul-n : goal.overflow_mul-n
overflow_mul-n c =
    let most : 16 ^ c.loop-c.c-index ≤ 16 ^ 7 = pow-le-pow_right {n = 16} (lit< tt) {i = c.loop-c.c-index} {j = 7} (omega arith) in
    omega (arith, c.loop-c.invariant.small)

pub overflow_add-n : goal.overflow_add-n
overflow_add-n c =
    let most : 16 ^ c.loop-c.c-index ≤ 16 ^ 7 = pow-le-pow_right {n = 16} (lit< tt) {i = c.loop-c.c-index} {j = 7} (omega arith) in
    omega (arith, c.loop-c.invariant.small, c.in-Some.ensures.small)
