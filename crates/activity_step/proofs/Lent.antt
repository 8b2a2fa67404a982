-- What a lent part of the memory leaves, written over with as many bytes.
use Rattle.std.proofs.Common.{◌≡◌, ℕ, List, ◌++◌, length, take, drop, ap, ◌∙◌, arith, append-nil, length-append}
use Rattle.std.proofs.lemmas.List.{drop_all, take_all}
use Rattle.std.proofs.Math.Seq.{drop-append_seam, take-append_seam}
use Rattle.flat_memory.specs.Lent.{with_real_time}
use Rattle.flat_memory.specs.Parts.{Parts}

whole : (g t w : List ℕ) → length w ≡ length t → take (length (g ++ t)) (g ++ w ++ drop (length w) t) ≡ g ++ w
whole g t w e =
    ap (λ d. take (length (g ++ t)) (g ++ w ++ d)) (drop_all (length w) t (omega (arith, e)))
    ∙ ap (take (length (g ++ t))) (append-nil (g ++ w))
    ∙ take_all (length (g ++ t)) (g ++ w) (let a = length-append g t in let b = length-append g w in omega (arith, a, b, e))

pub lent_guest : (parts : Parts) (w : List ℕ) → length w ≡ length parts.real_time → (with_real_time parts w).guest ≡ parts.guest
lent_guest parts w e = ap (take (length parts.guest)) (whole parts.guest parts.real_time w e) ∙ take-append_seam parts.guest w

pub lent_bytes : (parts : Parts) (w : List ℕ) → length w ≡ length parts.real_time → (with_real_time parts w).real_time ≡ w
lent_bytes parts w e = ap (drop (length parts.guest)) (whole parts.guest parts.real_time w e) ∙ drop-append_seam parts.guest w
