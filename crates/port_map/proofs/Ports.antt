-- A test of four ports that rise modulo 65,536.
use Rattle.std.proofs.Common.{◌≡◌, ℕ, ◌+◌, ◌%◌, ◌<◌, Bool, true, false, ◌&&◌, arith, refl}

and_true : (b : Bool) → b && true ≡ b
and_true true = refl
and_true false = refl

pub four_ports : (mine : ℕ → Bool) (port : ℕ) (a b c d : Bool) → port < 65536
    → a ≡ mine port → b ≡ mine ((port + 1) % 65536) → c ≡ mine ((port + 2) % 65536) → d ≡ mine ((port + 3) % 65536)
    → (a && (b && (c && d))) ≡ (mine (port % 65536) && (mine ((port + 1) % 65536) && (mine ((port + 1 + 1) % 65536) && (mine ((port + 1 + 1 + 1) % 65536) && true))))
four_ports mine port a b c d small first second third fourth =
    let at0 : port % 65536 ≡ port = omega arith in
    let at2 : port + 1 + 1 ≡ port + 2 = omega arith in
    let at3 : port + 2 + 1 ≡ port + 3 = omega arith in
    rw (at0, at2, at3, first, second, third, fourth, and_true (mine ((port + 3) % 65536))) refl
