-- Where a word ends.
use Rattle.std.proofs.Common.{◌≡◌, ℕ, suc, ◌+◌, Bool, true, not, ◌&&◌, List, [], ◌∷◌, ◌++◌, length, drop, refl, arith}
use Rattle.std.specs.List.{position_or_len}
use Rattle.std.proofs.lemmas.Bool.{and_parts}
use Rattle.std.proofs.lemmas.List.{take_at, append-nil}
use Rattle.line_text.specs.Cut.{is_space}
use Rattle.trace_lines.specs.Words.{front_word, rest_of}

-- a word has no space
abbrev pub spaceless : List ℕ → Bool
spaceless [] = true
spaceless (c ∷ cs) = not (is_space c) && spaceless cs

-- nothing, or what begins with a space
abbrev pub AtSpace : List ℕ → Type 0
AtSpace [] = Unit {0}
AtSpace (c ∷ cs) = c ≡ 32

pub spaceless_both : (a b : List ℕ) → spaceless a ≡ true → spaceless b ≡ true → spaceless (a ++ b) ≡ true
spaceless_both [] b first second = second
spaceless_both (c ∷ cs) b first second =
    let parts = and_parts (not (is_space c)) (spaceless cs) first in
    let rest = spaceless_both cs b parts.1 second in
    rw (parts.0, rest) refl

pub place : (word tail : List ℕ) → spaceless word ≡ true → AtSpace tail → position_or_len is_space (word ++ tail) ≡ length word
place [] [] plain at = refl
place [] (c ∷ cs) plain at = rw at refl
place (c ∷ cs) tail plain at =
    let parts = and_parts (not (is_space c)) (spaceless cs) plain in
    let rest = place cs tail parts.1 at in
    rw (parts.0, rest) (omega arith)

drop_one_more : (a b : List ℕ) → drop (length a + 1) (a ++ b) ≡ drop 1 b
drop_one_more [] b = refl
drop_one_more (x ∷ xs) b = let next : suc (length xs) + 1 ≡ suc (length xs + 1) = omega arith in rw next (drop_one_more xs b)

pub first_word : (word tail : List ℕ) → spaceless word ≡ true → AtSpace tail → front_word (word ++ tail) ≡ word
unfolding front_word
first_word word tail plain at = rw (place word tail plain at) (take_at word tail (length word) refl)

pub behind_word : (word tail : List ℕ) → spaceless word ≡ true → AtSpace tail → rest_of (word ++ tail) ≡ drop 1 tail
unfolding rest_of
behind_word word tail plain at = rw (place word tail plain at) (drop_one_more word tail)

-- a word alone
pub only_word : (word : List ℕ) → spaceless word ≡ true → front_word word ≡ word
only_word word plain = let found = first_word word [] plain tt in rw (append-nil word) at found

pub behind_only : (word : List ℕ) → spaceless word ≡ true → rest_of word ≡ []
behind_only word plain = let found = behind_word word [] plain tt in rw (append-nil word) at found
