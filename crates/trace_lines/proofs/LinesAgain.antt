-- Lines are read back from their words.
use Rattle.std.proofs.Common.{◌≡◌, ℕ, ◌^◌, ◌<◌, true, List, [], ◌∷◌, ◌++◌, length, drop, Option, Some, refl, sym, ap, ◌∙◌, arith, decimal, codes}
use Rattle.std.specs.Prelude.{ℤ, option_map}
use Rattle.std.specs.Fmt.{signed_decimal}
use Rattle.std.proofs.lemmas.List.{append-nil}
use Rattle.line_text.specs.LineText.{hex_text, bytes_text}
use Rattle.line_kinds.specs.declared.kinds.Who.{Who}
use Rattle.line_kinds.specs.declared.kinds.FaultKind.{FaultKind}
use Rattle.line_kinds.specs.declared.kinds.Mode.{Mode}
use Rattle.line_kinds.specs.declared.kinds.RLine.{RLine}
use Rattle.line_kinds.specs.declared.kinds.RLine.TheVariants as r
use Rattle.line_kinds.specs.declared.kinds.GLine.{GLine}
use Rattle.line_kinds.specs.declared.kinds.GLine.TheVariants as g
use Rattle.line_kinds.specs.declared.kinds.HLine.{HLine}
use Rattle.line_kinds.specs.declared.kinds.HLine.TheVariants.{Edge, Ack, Set}
use Rattle.trace_lines.specs.Fits.{AreSaid, AreWords, IsWho, IsRLine, IsGLine, IsHLine}
use Rattle.std.specs.Int.{w32}
use Rattle.std.specs.Int.RustNames.{FitsSigned}
use Rattle.trace_lines.specs.Reading.{gate_line_in, fault_line_in, reply_line_in, r_end_in, r_line_in, put_line_in, get_line_in, g_end_in, breach_line_in, g_line_in, h_line_in}
use Rattle.trace_lines.specs.Text.{who_words, fault_word, mode_word, breach_words, spaced_words, r_words, g_words, h_words}
use Rattle.trace_lines.specs.Words.{front_word, rest_of, words_in, who_in}
use Rattle.trace_lines.proofs.Cutting.{AtSpace, spaceless, first_word, behind_word, only_word, behind_only}
use Rattle.trace_lines.proofs.HexAgain.{byte_again, bytes_again, digest_again}
use Rattle.trace_lines.proofs.KindsAgain.{who_again, behind_who, fault_again, mode_again, plain_mode, breach_again}
use Rattle.trace_lines.proofs.Numbers.{number_again, plain_decimal}
use Rattle.trace_lines.proofs.SignedAgain.{signed_again, plain_signed}
use Rattle.trace_lines.proofs.WordsAgain.{words_again, four_behind, at_words}

-- a reader of a first word and what is behind it
alone : {A : Type 0} (read : List ℕ → List ℕ → Option A) (word : List ℕ) → spaceless word ≡ true → read (front_word word) (rest_of word) ≡ read word []
alone read word plain = rw (only_word word plain, behind_only word plain) refl

led : {A : Type 0} (read : List ℕ → List ℕ → Option A) (word rest : List ℕ) → spaceless word ≡ true → read (front_word (word ++ (32 ∷ rest))) (rest_of (word ++ (32 ∷ rest))) ≡ read word rest
led read word rest plain = rw (first_word word (32 ∷ rest) plain refl, behind_word word (32 ∷ rest) plain refl) refl

two_again : (first second : ℕ) → first < 2 ^ 32 → (front_word (decimal first ++ (32 ∷ decimal second)) ≡ decimal first) × (rest_of (decimal first ++ (32 ∷ decimal second)) ≡ decimal second)
two_again first second small = (
  first_word (decimal first) (32 ∷ decimal second) (plain_decimal first (omega arith)) refl,
  behind_word (decimal first) (32 ∷ decimal second) (plain_decimal first (omega arith)) refl,
)

gate_again : (function : ℕ) (registers : List ℕ) (value : ℤ) → function < 2 ^ 32 → AreWords 4 registers → FitsSigned w32 value
    → gate_line_in (decimal function ++ (spaced_words registers ++ (32 ∷ signed_decimal value))) ≡ Some (r.Gate function registers value)
unfolding gate_line_in
gate_again function registers value small four fits =
    let tail : List ℕ = 32 ∷ signed_decimal value in
    let plain = plain_decimal function (omega arith) in
    let at = at_words registers tail refl in
    let words : words_in 4 (drop 1 (spaced_words registers ++ tail)) ≡ Some registers = ap (λ (n : ℕ). words_in n (drop 1 (spaced_words registers ++ tail))) (sym four.long) ∙ words_again registers tail four.small refl in
    rw (
      first_word (decimal function) (spaced_words registers ++ tail) plain at,
      behind_word (decimal function) (spaced_words registers ++ tail) plain at,
      number_again function small,
      words,
      four_behind registers tail four.long refl,
      signed_again value fits,
    ) refl

fault_line_again : (who : Who) (kind : FaultKind) → IsWho who → fault_line_in (who_words who ++ (32 ∷ fault_word kind)) ≡ Some (r.Fault who kind)
unfolding fault_line_in
fault_line_again who kind fits =
    rw (who_again who (32 ∷ fault_word kind) fits refl, behind_who who (32 ∷ fault_word kind) fits refl, fault_again kind) refl

reply_again : (value : ℤ) (bytes : List ℕ) → FitsSigned w32 value → AreSaid bytes → reply_line_in (signed_decimal value ++ (32 ∷ bytes_text bytes)) ≡ Some (r.Reply value bytes)
unfolding reply_line_in
reply_again value bytes fits said =
    rw (
      first_word (signed_decimal value) (32 ∷ bytes_text bytes) (plain_signed value fits) refl,
      behind_word (signed_decimal value) (32 ∷ bytes_text bytes) (plain_signed value fits) refl,
      signed_again value fits,
      bytes_again bytes said,
    ) refl

r_end_again : (live ready : ℕ) → live < 2 ^ 32 → ready < 2 ^ 32 → r_end_in (decimal live ++ (32 ∷ decimal ready)) ≡ Some (r.End live ready)
unfolding r_end_in
r_end_again live ready first second =
    let parts = two_again live ready first in
    rw (parts.0, parts.1, number_again live first, number_again ready second) refl

who_alone : (who : Who) → IsWho who → who_in (who_words who) ≡ Some who
who_alone who fits = let found = who_again who [] fits tt in rw (append-nil (who_words who)) at found

pub r_again : (line : RLine) → IsRLine line → r_line_in (front_word (r_words line)) (rest_of (r_words line)) ≡ Some line
unfolding r_line_in
r_again (r.Com2 byte) fits = led r_line_in (codes "com2") (hex_text 2 byte) refl ∙ ap (option_map r.Com2) (byte_again byte fits)
r_again (r.Release thread) fits = led r_line_in (codes "release") (decimal thread) refl ∙ ap (option_map r.Release) (number_again thread fits)
r_again (r.On who) fits = led r_line_in (codes "on") (who_words who) refl ∙ ap (option_map r.On) (who_alone who fits)
r_again (r.Gate function registers value) fits =
    led r_line_in (codes "gate") (decimal function ++ (spaced_words registers ++ (32 ∷ signed_decimal value))) refl
    ∙ gate_again function registers value fits.0 fits.1 fits.2
r_again (r.Say bytes) fits = led r_line_in (codes "say") (bytes_text bytes) refl ∙ ap (option_map r.Say) (bytes_again bytes fits)
r_again r.Ret fits = alone r_line_in (codes "ret") refl
r_again (r.Fault who kind) fits = led r_line_in (codes "fault") (who_words who ++ (32 ∷ fault_word kind)) refl ∙ fault_line_again who kind fits
r_again (r.Reply value bytes) fits = led r_line_in (codes "reply") (signed_decimal value ++ (32 ∷ bytes_text bytes)) refl ∙ reply_again value bytes fits.0 fits.1
r_again (r.End live ready) fits = led r_line_in (codes "end") (decimal live ++ (32 ∷ decimal ready)) refl ∙ r_end_again live ready fits.0 fits.1
r_again (r.Memory digest) fits = led r_line_in (codes "memory") (bytes_text digest) refl ∙ ap (option_map r.Memory) (digest_again digest fits)

put_again : (fifo : ℕ) (bytes : List ℕ) → fifo < 2 ^ 32 → AreSaid bytes → put_line_in (decimal fifo ++ (32 ∷ bytes_text bytes)) ≡ Some (g.Put fifo bytes)
unfolding put_line_in
put_again fifo bytes small said =
    rw (
      first_word (decimal fifo) (32 ∷ bytes_text bytes) (plain_decimal fifo (omega arith)) refl,
      behind_word (decimal fifo) (32 ∷ bytes_text bytes) (plain_decimal fifo (omega arith)) refl,
      number_again fifo small,
      bytes_again bytes said,
    ) refl

get_again : (fifo count : ℕ) → fifo < 2 ^ 32 → count < 2 ^ 32 → get_line_in (decimal fifo ++ (32 ∷ decimal count)) ≡ Some (g.Get fifo count)
unfolding get_line_in
get_again fifo count first second =
    let parts = two_again fifo count first in
    rw (parts.0, parts.1, number_again fifo first, number_again count second) refl

g_end_again : (mode : Mode) (registers : List ℕ) → AreWords 10 registers → g_end_in (mode_word mode ++ spaced_words registers) ≡ Some (g.End mode registers)
unfolding g_end_in
g_end_again mode registers ten =
    let none = append-nil (spaced_words registers) in
    let at : AtSpace (spaced_words registers) = rw none at (at_words registers [] tt) in
    let read = words_again registers [] ten.small tt in
    let words : words_in 10 (drop 1 (spaced_words registers)) ≡ Some registers =
    ap (λ (n : ℕ). words_in n (drop 1 (spaced_words registers))) (sym ten.long)
    ∙ (ap (λ (text : List ℕ). words_in (length registers) (drop 1 text)) (sym none) ∙ read) in
    rw (
      first_word (mode_word mode) (spaced_words registers) (plain_mode mode) at,
      behind_word (mode_word mode) (spaced_words registers) (plain_mode mode) at,
      mode_again mode,
      words,
    ) refl

pub g_again : (line : GLine) → IsGLine line → g_line_in (front_word (g_words line)) (rest_of (g_words line)) ≡ Some line
unfolding g_line_in breach_line_in
g_again (g.Com1 byte) fits = led g_line_in (codes "com1") (hex_text 2 byte) refl ∙ ap (option_map g.Com1) (byte_again byte fits)
g_again (g.Enter vector) fits = led g_line_in (codes "enter") (decimal vector) refl ∙ ap (option_map g.Enter) (number_again vector fits)
g_again (g.Int vector) fits = led g_line_in (codes "int") (decimal vector) refl ∙ ap (option_map g.Int) (number_again vector fits)
g_again g.Halt fits = alone g_line_in (codes "halt") refl
g_again (g.Put fifo bytes) fits = led g_line_in (codes "put") (decimal fifo ++ (32 ∷ bytes_text bytes)) refl ∙ put_again fifo bytes fits.0 fits.1
g_again (g.Get fifo count) fits = led g_line_in (codes "get") (decimal fifo ++ (32 ∷ decimal count)) refl ∙ get_again fifo count fits.0 fits.1
g_again (g.Shutdown vector) fits = led g_line_in (codes "shutdown") (decimal vector) refl ∙ ap (option_map g.Shutdown) (number_again vector fits)
g_again (g.Breach kind) fits = led g_line_in (codes "breach") (breach_words kind) refl ∙ ap (option_map g.Breach) (breach_again kind fits)
g_again (g.End mode registers) fits = led g_line_in (codes "end") (mode_word mode ++ spaced_words registers) refl ∙ g_end_again mode registers fits
g_again (g.Memory digest) fits = led g_line_in (codes "memory") (bytes_text digest) refl ∙ ap (option_map g.Memory) (digest_again digest fits)

pub h_again : (line : HLine) → IsHLine line → h_line_in (front_word (h_words line)) (rest_of (h_words line)) ≡ Some line
unfolding h_line_in
h_again (Edge line) fits = led h_line_in (codes "edge") (decimal line) refl ∙ ap (option_map Edge) (number_again line fits)
h_again (Ack line) fits = led h_line_in (codes "ack") (decimal line) refl ∙ ap (option_map Ack) (number_again line fits)
h_again (Set count) fits = led h_line_in (codes "set") (decimal count) refl ∙ ap (option_map Set) (number_again count fits)
