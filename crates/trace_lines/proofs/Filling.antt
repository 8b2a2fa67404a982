-- Words that are read one after the other.
use Rattle.std.proofs.Common.{◌≡◌, ℕ, suc, List, [], ◌∷◌, ◌++◌, Option, Some, None, refl, sym, ap, append_assoc}
use Rattle.std.specs.Prelude.{option_and_then}
use Rattle.trace_lines.specs.Words.{front_word, rest_of, doubleword_in, words_in}

-- words behind others
abbrev pub onto : List ℕ → Option (List ℕ) → Option (List ℕ)
onto front None = None
onto front (Some words) = Some (front ++ words)

behind_one : (front : List ℕ) (word : ℕ) (read : Option (List ℕ)) → onto front (option_and_then (λ words. Some (word ∷ words)) read) ≡ onto (front ++ word ∷ []) read
behind_one front word None = refl
behind_one front word (Some words) = ap Some (sym (append_assoc front (word ∷ []) words))

-- one word more
pub one_more : (k n : ℕ) (front rest : List ℕ) (word : ℕ) → k ≡ suc n → doubleword_in (front_word rest) ≡ Some word
    → onto (front ++ word ∷ []) (words_in n (rest_of rest)) ≡ onto front (words_in k rest)
unfolding words_in
one_more k n front rest word next read = rw (next, read) (sym (behind_one front word (words_in n (rest_of rest))))

-- no word
pub no_more : (k n : ℕ) (front rest : List ℕ) → k ≡ suc n → doubleword_in (front_word rest) ≡ None → onto front (words_in k rest) ≡ None
unfolding words_in
no_more k n front rest next read = rw (next, read) refl
