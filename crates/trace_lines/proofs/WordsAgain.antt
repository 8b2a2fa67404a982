-- Words are read back from the texts that lines have of them.
use Rattle.std.proofs.Common.{◌≡◌, ℕ, suc, ◌^◌, ◌<◌, List, [], ◌∷◌, ◌++◌, length, drop, Some, refl, arith, append_assoc, slice_index}
use Rattle.line_text.specs.LineText.{hex_text}
use Rattle.trace_lines.specs.Text.{spaced_words}
use Rattle.trace_lines.specs.Words.{front_word, rest_of, words_in, after_four}
use Rattle.trace_lines.proofs.Cutting.{AtSpace, first_word, behind_word}
use Rattle.trace_lines.proofs.HexAgain.{doubleword_again, plain_hex}

-- words behind spaces
pub at_words : (words tail : List ℕ) → AtSpace tail → AtSpace (spaced_words words ++ tail)
at_words [] tail at = at
at_words (word ∷ words) tail at = refl

one_word : (word : ℕ) (words tail : List ℕ) → AtSpace tail → front_word (drop 1 (spaced_words (word ∷ words) ++ tail)) ≡ hex_text 8 word
one_word word words tail at =
    rw (append_assoc (hex_text 8 word) (spaced_words words) tail) (first_word (hex_text 8 word) (spaced_words words ++ tail) (plain_hex 8 word) (at_words words tail at))

pub words_behind : (word : ℕ) (words tail : List ℕ) → AtSpace tail → rest_of (drop 1 (spaced_words (word ∷ words) ++ tail)) ≡ drop 1 (spaced_words words ++ tail)
words_behind word words tail at =
    rw (append_assoc (hex_text 8 word) (spaced_words words) tail) (behind_word (hex_text 8 word) (spaced_words words ++ tail) (plain_hex 8 word) (at_words words tail at))

pub words_again : (words tail : List ℕ) → ((i : ℕ) → slice_index words i < 2 ^ 32) → AtSpace tail → words_in (length words) (drop 1 (spaced_words words ++ tail)) ≡ Some words
unfolding words_in
words_again [] tail small at = refl
words_again (word ∷ words) tail small at =
    let first = one_word word words tail at in
    let behind = words_behind word words tail at in
    let read = doubleword_again word (small 0) in
    let others = words_again words tail (λ i. small (suc i)) at in
    rw (first, behind, read, others) refl

pub four_behind : (words tail : List ℕ) → length words ≡ 4 → AtSpace tail → after_four (drop 1 (spaced_words words ++ tail)) ≡ drop 1 tail
unfolding after_four
four_behind (a ∷ b ∷ c ∷ d ∷ []) tail long at =
    rw (words_behind a (b ∷ c ∷ d ∷ []) tail at, words_behind b (c ∷ d ∷ []) tail at, words_behind c (d ∷ []) tail at, words_behind d [] tail at) refl
four_behind _ tail long at = absurd (omega arith)
