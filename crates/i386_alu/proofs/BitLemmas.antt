-- One bit of a word, by the bit operations and by whole numbers.
use Rattle.std.proofs.Common.{◌≡◌, ℕ, ◌-◌, ◌*◌, ◌%◌, ◌^◌, ◌<◌, arith, sym}
use Rattle.std.specs.Int.{bit_at}
use Rattle.std.specs.Int.RustNames.{bit_or, bit_xor}
use lib.Bits.{bit_and, or_add_and, xor_add_and}
use Rattle.std.proofs.lemmas.Nat.{and-not, and_comm, or_lt, xor_lt, pow_below}
use Rattle.std.proofs.lemmas.Nat.Bits.{and_pow, bit_at-lt}
use Rattle.std.proofs.Math.Nat.{mod-eq_of_lt}
use Rattle.cpu_state.specs.Width.{bits, modulus}
use Rattle.cpu_state.specs.declared.width.Width.{Width}
use Rattle.cpu_state.specs.declared.width.Width.TheVariants.{W8, W16, W32}
use Rattle.i386_alu.specs.Bit.{with_bit, without_bit, with_bit_turned}

mask : (i : ℕ) → i < 32 → 1 * 2 ^ i % 4294967296 ≡ 2 ^ i
mask i h = let below : 2 ^ i < 2 ^ 32 = pow_below i 32 h in grind (arith, mod-eq_of_lt)

-- what a word and a mask have in common is the mask or nothing
shared : (a i : ℕ) → bit_and a (2 ^ i) ≡ bit_at a i * 2 ^ i
shared a i = and_pow a i

or_power : (a i : ℕ) → bit_or a (2 ^ i) ≡ with_bit a i
or_power a i =
    let common = shared a i in
    let sum = or_add_and a (2 ^ i) in
    let small = bit_at-lt a i in
    grind arith

xor_power : (a i : ℕ) → bit_xor a (2 ^ i) ≡ with_bit_turned a i
xor_power a i =
    let common = shared a i in
    let sum = xor_add_and a (2 ^ i) in
    let small = bit_at-lt a i in
    grind arith

pub or_mask : (a i : ℕ) → i < 32 → bit_or a (1 * 2 ^ i % 4294967296) ≡ with_bit a i
or_mask a i h = rw (mask i h) (or_power a i)

pub xor_mask : (a i : ℕ) → i < 32 → bit_xor a (1 * 2 ^ i % 4294967296) ≡ with_bit_turned a i
xor_mask a i h = rw (mask i h) (xor_power a i)

pub and_not_mask : (a i : ℕ) → a < 2 ^ 32 → i < 32 → bit_and a (4294967295 - 1 * 2 ^ i % 4294967296) ≡ without_bit a i
and_not_mask a i fits h =
    let common = shared a i in
    let below : 2 ^ i < 2 ^ 32 = pow_below i 32 h in
    let parts = and-not 32 (2 ^ i) a below fits in
    let turned = and_comm (2 ^ i) a in
    let turned_other = and_comm (4294967295 - 2 ^ i) a in
    let small = bit_at-lt a i in
    rw (mask i h) (grind arith)

-- an operand with a bit set or turned has its width
pub with_bit_fits : (w : Width) (a i : ℕ) → a < modulus w → i < bits w → with_bit a i < modulus w
with_bit_fits W8 a i fits h = rw (sym (or_power a i)) (or_lt 8 a (2 ^ i) fits (pow_below i 8 h))
with_bit_fits W16 a i fits h = rw (sym (or_power a i)) (or_lt 16 a (2 ^ i) fits (pow_below i 16 h))
with_bit_fits W32 a i fits h = rw (sym (or_power a i)) (or_lt 32 a (2 ^ i) fits (pow_below i 32 h))

pub with_bit_turned_fits : (w : Width) (a i : ℕ) → a < modulus w → i < bits w → with_bit_turned a i < modulus w
with_bit_turned_fits W8 a i fits h = rw (sym (xor_power a i)) (xor_lt 8 a (2 ^ i) fits (pow_below i 8 h))
with_bit_turned_fits W16 a i fits h = rw (sym (xor_power a i)) (xor_lt 16 a (2 ^ i) fits (pow_below i 16 h))
with_bit_turned_fits W32 a i fits h = rw (sym (xor_power a i)) (xor_lt 32 a (2 ^ i) fits (pow_below i 32 h))
