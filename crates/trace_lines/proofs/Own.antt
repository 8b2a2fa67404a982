-- Which line a text is.
use Rattle.std.proofs.Common.{◌≡◌, ℕ, ◌^◌, ◌<◌, Bool, true, false, List, ◌∷◌, ◌++◌, Option, Some, None, if◌then◌else◌, refl, sym, ap, ◌∙◌, arith, decimal, codes}
use Rattle.std.specs.Prelude.{option_map, ◌≢◌, ◌↔◌, IfNone, bytes_eq}
use Rattle.std.proofs.lemmas.Option.{some_pair_parts}
use Rattle.std.proofs.lemmas.Slice.Eq.{bytes_eq-Decides}
use Rattle.line_kinds.specs.declared.kinds.Line.{Line}
use Rattle.line_kinds.specs.declared.kinds.Line.TheVariants.{R, G, H}
use Rattle.trace_lines.specs.Fits.{IsLine}
use Rattle.trace_lines.specs.Reading.{kind_in, words_read, own_text, line_in}
use Rattle.trace_lines.specs.Text.{line_text, r_words, g_words, h_words}
use Rattle.trace_lines.specs.Words.{front_word, rest_of}
use Rattle.trace_lines.proofs.Cutting.{spaceless, first_word, behind_word}
use Rattle.trace_lines.proofs.LinesAgain.{r_again, g_again, h_again}
use Rattle.trace_lines.proofs.Numbers.{number_again, plain_decimal}

-- a letter, a tick and words
led : (letter words : List ℕ) (tick : ℕ) (line : Line) → spaceless letter ≡ true → tick < 2 ^ 32 → kind_in letter (front_word words) (rest_of words) ≡ Some line
    → words_read (letter ++ (32 ∷ (decimal tick ++ (32 ∷ words)))) ≡ Some (tick, line)
unfolding words_read
led letter words tick line plain small read =
    let digits = plain_decimal tick (omega arith) in
    rw (
      first_word letter (32 ∷ (decimal tick ++ (32 ∷ words))) plain refl,
      behind_word letter (32 ∷ (decimal tick ++ (32 ∷ words))) plain refl,
      first_word (decimal tick) (32 ∷ words) digits refl,
      behind_word (decimal tick) (32 ∷ words) digits refl,
      number_again tick small,
      read,
    ) refl

pub words_again : (tick : ℕ) (line : Line) → tick < 2 ^ 32 → IsLine line → words_read (line_text tick line) ≡ Some (tick, line)
unfolding kind_in
words_again tick (R line) small fits = led (codes "R") (r_words line) tick (R line) refl small (ap (option_map R) (r_again line fits))
words_again tick (G line) small fits = led (codes "G") (g_words line) tick (G line) refl small (ap (option_map G) (g_again line fits))
words_again tick (H line) small fits = led (codes "H") (h_words line) tick (H line) refl small (ap (option_map H) (h_again line fits))

same_text : (text : List ℕ) → bytes_eq text text ≡ true
same_text text = (bytes_eq-Decides text text).1 refl

-- a line's own text is its own
pub line_again : (tick : ℕ) (line : Line) → tick < 2 ^ 32 → IsLine line → line_in (line_text tick line) ≡ Some (tick, line)
unfolding line_in
line_again tick line small fits = rw (words_again tick line small fits, same_text (line_text tick line)) refl

chosen : (b : Bool) (found other : ℕ × Line) → ◌≡◌ {A = Option (ℕ × Line)} (if b then Some found else None) (Some other) → (b ≡ true) × (found ≡ other)
chosen true found other same = (refl, cc)
chosen false found other same = cc same

own : (text : List ℕ) (read : Option (ℕ × Line)) (found : ℕ × Line) → own_text text read ≡ Some found → text ≡ line_text found.0 found.1
own text None found same = cc same
own text (Some other) found same =
    let parts = chosen (bytes_eq text (line_text other.0 other.1)) other found same in
    (bytes_eq-Decides text (line_text other.0 other.1)).0 parts.0 ∙ ap (λ (x : ℕ × Line). line_text x.0 x.1) parts.1

-- what a text is has this text
pub is_own : (text : List ℕ) (found : ℕ × Line) → line_in text ≡ Some found → text ≡ line_text found.0 found.1
unfolding line_in
is_own text found same = own text (words_read text) found same

pub line_law : (text : List ℕ) (tick : ℕ) (line : Line) → tick < 2 ^ 32 → IsLine line → (line_in text ≡ Some (tick, line)) ↔ (text ≡ line_text tick line)
line_law text tick line small fits = (
  λ found. is_own text (tick, line) found,
  λ same. ap line_in same ∙ line_again tick line small fits,
)

pub none_law : (text : List ℕ) (result : Option (ℕ × Line)) → result ≡ line_in text
    → IfNone result ((tick : ℕ) (line : Line) → tick < 2 ^ 32 → IsLine line → text ≢ line_text tick line)
none_law text None same = λ tick line small fits is. let read = (line_law text tick line small fits).1 is in cc (same, read)
none_law text (Some found) same = tt

pub texts_law : (s t : ℕ) (k l : Line) → s < 2 ^ 32 → t < 2 ^ 32 → IsLine k → IsLine l → line_text s k ≡ line_text t l → (s ≡ t) × (k ≡ l)
texts_law s t k l first second one other same =
    let both : ◌≡◌ {A = Option (ℕ × Line)} (Some (s, k)) (Some (t, l)) = sym (line_again s k first one) ∙ (ap line_in same ∙ line_again t l second other) in
    some_pair_parts s t k l both
