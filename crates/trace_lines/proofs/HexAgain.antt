-- Hexadecimal digits are read back from their texts.
use Rattle.std.proofs.Common.{◌≡◌, ℕ, zero, suc, ◌+◌, ◌*◌, ◌/◌, ◌%◌, ◌^◌, ◌<◌, ◌≤◌, Bool, true, false, not, if◌then◌else◌, List, [], ◌∷◌, length, Option, Some, None, refl, ap, ◌∙◌, arith, slice_index, inl, inr, nat_lt, codes}
use Rattle.std.specs.Int.{bytes_high_first, byte_at}
use Rattle.std.specs.Str.{bytes_eq}
use Rattle.std.specs.Result.{result_ok}
use Rattle.std.proofs.lemmas.Bool.{cases_eq}
use Rattle.std.proofs.lemmas.Bool.Decides.{nat_tests}
use Rattle.std.proofs.lemmas.Slice.Eq.{bytes_eq-Decides}
use Rattle.hex.specs.Hex.{encode_with, encode_lower, lower_digits, hex_digit_value, decode_sized, IsBytes}
use Rattle.hex.proofs.HexLemmas.{IsDigits-lower_digits, length-encode_with, decode_sized-encode_lower}
use Rattle.line_text.specs.Cut.{is_space}
use Rattle.line_text.specs.LineText.{hex_text, bytes_text}
use Rattle.line_text.specs.Numbers.{hex_after}
use Rattle.trace_lines.specs.Fits.{AreSaid, IsDigest}
use Rattle.trace_lines.specs.Words.{byte_in, word_in, doubleword_in, bytes_in, digest_in}
use Rattle.trace_lines.proofs.Cutting.{spaceless}
use Rattle.trace_lines.proofs.Digits.{length-two, length-word, length-doubleword}

-- a byte more
byte_after : (n m byte : ℕ) (bytes : List ℕ) → byte < 256 → m ≡ n * 256 + byte → hex_after n (encode_lower (byte ∷ bytes)) ≡ hex_after m (encode_lower bytes)
unfolding encode_with
byte_after n m byte bytes small same =
    let value : (n * 16 + byte / 16) * 16 + byte % 16 ≡ m = omega arith in
    rw (IsDigits-lower_digits (byte / 16) (omega arith), IsDigits-lower_digits (byte % 16) (omega arith), value) refl

none_after : (n m : ℕ) → n ≡ m → hex_after n (encode_lower []) ≡ Some m
unfolding encode_with
none_after n m same = ap Some same

pub two_again : (n : ℕ) → n < 2 ^ 8 → hex_after 0 (hex_text 2 n) ≡ Some n
unfolding hex_text
two_again n small = byte_after 0 (n % 256) (n % 256) [] (omega arith) (omega arith) ∙ none_after (n % 256) n (omega arith)

pub four_again : (n : ℕ) → n < 2 ^ 16 → hex_after 0 (hex_text 4 n) ≡ Some n
unfolding hex_text
four_again n small =
    byte_after 0 (n / 256 ^ 1 % 256) (n / 256 ^ 1 % 256) (n % 256 ∷ []) (omega arith) (omega arith)
    ∙ byte_after (n / 256 ^ 1 % 256) n (n % 256) [] (omega arith) (omega arith)
    ∙ none_after n n refl

pub eight_again : (n : ℕ) → n < 2 ^ 32 → hex_after 0 (hex_text 8 n) ≡ Some n
unfolding hex_text
eight_again n small =
    let top = n / 256 ^ 3 % 256 in
    let high = n / 256 ^ 2 % 256 in
    let low = n / 256 ^ 1 % 256 in
    byte_after 0 top top (high ∷ low ∷ n % 256 ∷ []) (omega arith) (omega arith)
    ∙ byte_after top (top * 256 + high) high (low ∷ n % 256 ∷ []) (omega arith) (omega arith)
    ∙ byte_after (top * 256 + high) ((top * 256 + high) * 256 + low) low (n % 256 ∷ []) (omega arith) (omega arith)
    ∙ byte_after ((top * 256 + high) * 256 + low) n (n % 256) [] (omega arith) (omega arith)
    ∙ none_after n n refl

pub byte_again : (n : ℕ) → n < 2 ^ 8 → byte_in (hex_text 2 n) ≡ Some n
unfolding byte_in
byte_again n small = rw (length-two n) (two_again n small)

pub word_again : (n : ℕ) → n < 2 ^ 16 → word_in (hex_text 4 n) ≡ Some n
unfolding word_in
word_again n small = rw (length-word n) (four_again n small)

pub doubleword_again : (n : ℕ) → n < 2 ^ 32 → doubleword_in (hex_text 8 n) ≡ Some n
unfolding doubleword_in
doubleword_again n small = rw (length-doubleword n) (eight_again n small)

-- digits have no space
digit_is_plain : (c d : ℕ) → hex_digit_value c ≡ Some d → not (is_space c) ≡ true
digit_is_plain c d digit =
    elim (cases_eq c 32) [
      | inl space ↦ cc (rw space at digit)
      | inr other ↦ grind (arith, nat_tests)
    ]

pub plain_bytes : (bytes : List ℕ) → IsBytes bytes → spaceless (encode_lower bytes) ≡ true
unfolding encode_with
plain_bytes [] small = refl
plain_bytes (byte ∷ bytes) small =
    let fits : byte < 256 = small 0 in
    let high = digit_is_plain (slice_index lower_digits (byte / 16)) (byte / 16) (IsDigits-lower_digits (byte / 16) (omega arith)) in
    let low = digit_is_plain (slice_index lower_digits (byte % 16)) (byte % 16) (IsDigits-lower_digits (byte % 16) (omega arith)) in
    let rest = plain_bytes bytes (λ i. small (suc i)) in
    rw (high, low, rest) refl

small_byte : (i n : ℕ) → byte_at i n < 256
small_byte zero n = omega arith
small_byte (suc i) n = omega arith

small_bytes : (k n i : ℕ) → slice_index (bytes_high_first k n) i < 256
small_bytes zero n i = omega arith
small_bytes (suc k) n zero = small_byte k n
small_bytes (suc k) n (suc i) = small_bytes k n i

pub plain_hex : (digits n : ℕ) → spaceless (hex_text digits n) ≡ true
unfolding hex_text
plain_hex digits n = plain_bytes (bytes_high_first (digits / 2) n) (small_bytes (digits / 2) n)

-- bytes
differs : (b : Bool) (x y : List ℕ) → (b ≡ true → x ≡ y) → (length x ≡ length y → ⊥) → b ≡ false
differs true x y same other = absurd (other (ap length (same refl)))
differs false x y same other = refl

pick : (b c : Bool) (x z w : Option (List ℕ)) → b ≡ false → c ≡ false → z ≡ w → (if b then x else if c then None else z) ≡ w
pick b c x z w first second same = rw (first, second) same

many : (n : ℕ) → n / 2 ≤ 256 → nat_lt 256 (n / 2) ≡ false
many n few = grind (arith, nat_tests)

written_again : (bytes : List ℕ) → AreSaid bytes → bytes_in (encode_lower bytes) ≡ Some bytes
unfolding bytes_in
written_again bytes said =
    let text = encode_lower bytes in
    let long = length-encode_with lower_digits bytes in
    let few = said.few in
    pick (bytes_eq text (codes "-")) (nat_lt 256 (length text / 2)) (Some []) (result_ok (decode_sized text (length text / 2))) (Some bytes)
    (differs (bytes_eq text (codes "-")) text (codes "-") (bytes_eq-Decides text (codes "-")).0 (λ same. omega (arith, long)))
    (many (length text) (omega (arith, long)))
    (ap (λ r. result_ok r) (decode_sized-encode_lower bytes (length text / 2) (omega (arith, long)) said.small))

pub bytes_again : (bytes : List ℕ) → AreSaid bytes → bytes_in (bytes_text bytes) ≡ Some bytes
unfolding bytes_in
bytes_again [] said = refl
bytes_again (byte ∷ bytes) said = written_again (byte ∷ bytes) said

pub digest_again : (digest : List ℕ) → IsDigest digest → digest_in (bytes_text digest) ≡ Some digest
unfolding digest_in
digest_again [] digest = let long = digest.long in absurd (omega arith)
digest_again (byte ∷ bytes) digest = ap (λ r. result_ok r) (decode_sized-encode_lower (byte ∷ bytes) 32 digest.long digest.small)
