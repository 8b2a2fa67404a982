-- A write to the rest of a list, from a place on.
use Rattle.std.proofs.Common.{◌≡◌, ℕ, ◌+◌, ◌-◌, ◌/◌, ◌%◌, ◌≤◌, List, [], ◌++◌, length, take, drop, ap, arith, ◌∙◌, length-drop, refl, append-nil}
use Rattle.std.proofs.lemmas.List.{drop-drop, take_all, drop_all}
use borrow.Rule.Slice.PartMut.{put_mid}
use Rattle.byteorder.specs.Endian.{little_bytes}

-- the bytes ys were written at the start of the part from place p on
pub written : (p n k : ℕ) (xs ys new : List ℕ) → p + n ≤ length xs → k ≡ length xs - p → new ≡ ys ++ drop n (take k (drop p xs)) → put_mid p k xs new ≡ take p xs ++ (ys ++ drop (p + n) xs)
written p n k xs ys new h e w =
    let whole : take k (drop p xs) ≡ drop p xs = take_all k (drop p xs) (omega (arith, length-drop p xs)) in
    let none : drop k (drop p xs) ≡ [] = drop_all k (drop p xs) (omega (arith, length-drop p xs)) in
    rw (w, whole, none) (simp (drop-drop, append-nil))

-- the low word of a number has its low bytes
pub low_word : (x : ℕ) → little_bytes 2 (x % 65536) ≡ little_bytes 2 x
low_word x =
    let low : x % 65536 % 256 ≡ x % 256 = omega arith in
    let high : x % 65536 / 256 % 256 ≡ x / 256 % 256 = omega arith in
    rw (low, high) refl

-- the low word of a number was written from place p on
pub word_written : (p k x : ℕ) (xs new : List ℕ) → p + 2 ≤ length xs → k ≡ length xs - p → new ≡ little_bytes 2 (x % 65536) ++ drop 2 (take k (drop p xs)) → put_mid p k xs new ≡ take p xs ++ (little_bytes 2 x ++ drop (p + 2) xs)
word_written p k x xs new fits size wrote =
    written p 2 k xs (little_bytes 2 x) new fits size (wrote ∙ ap (λ (ws : List ℕ). ws ++ drop 2 (take k (drop p xs))) (low_word x))
