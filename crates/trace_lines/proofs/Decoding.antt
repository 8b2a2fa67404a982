-- Bytes that are read are bytes.
use Rattle.std.proofs.Common.{◌≡◌, ℕ, ◌≤◌, List, Result, Ok, Err, sym, ap, ◌∙◌, arith}
use Rattle.std.specs.Prelude.{MatchResult}
use Rattle.hex.specs.Hex.{decode_sized}
use Rattle.hex.specs.declared.error.FromHexError.{FromHexError}
use Rattle.hex.proofs.HexLemmas.{decode_sized-ok, decode_sized-twice, decode_of-ok}
use Rattle.trace_lines.specs.Fits.{AreSaid}

decoded : (d : Result (List ℕ) FromHexError) (r : Result (Unit {0}) FromHexError) (out : List ℕ)
    → MatchResult d (λ bytes. (r ≡ Ok tt) × (out ≡ bytes)) (λ e. r ≡ Err e) → r ≡ Ok tt → d ≡ Ok out
decoded (Ok bytes) r out told ok = ap Ok (sym told.1)
decoded (Err e) r out told ok = cc (told, ok)

pub said : (text bytes : List ℕ) (n : ℕ) → n ≤ 256 → decode_sized text n ≡ Ok bytes → AreSaid bytes
said text bytes n few read =
    let long = decode_sized-ok text n bytes read in
    let whole = decode_of-ok text bytes (sym (decode_sized-twice text n long) ∙ read) in
    record { few = omega (arith, long, whole.2); small = whole.3 }

pub said_to : (text out : List ℕ) (n : ℕ) (r : Result (Unit {0}) FromHexError)
    → MatchResult (decode_sized text n) (λ bytes. (r ≡ Ok tt) × (out ≡ bytes)) (λ e. r ≡ Err e) → r ≡ Ok tt → n ≤ 256 → AreSaid out
said_to text out n r told ok few = said text out n few (decoded (decode_sized text n) r out told ok)
