-- What the words of a line stand for. Where a word isn't written as a line writes it, as with a leading zero, its value
-- may still be read: a line is only what its own text is.
use Rattle.std.specs.Prelude.{ℕ, zero, suc, ◌/◌, ◌^◌, ◌==◌, nat_lt, if◌then◌else◌, List, [], ◌∷◌, length, codes, Option, Some, None, option_map, option_and_then, bytes_eq, ℤ, pos, neg_ℤ}
use Rattle.std.specs.List.{before_first, after_first}
use Rattle.std.specs.Result.{result_ok}
use Rattle.hex.specs.Hex.{decode_sized}
use Rattle.line_text.specs.Cut.{is_space}
use Rattle.line_text.specs.Numbers.{decimal_in, hex_in}
use Rattle.line_kinds.specs.declared.kinds.Who.{Who}
use Rattle.line_kinds.specs.declared.kinds.Who.TheVariants.{Guest, Thread, Init, Irq, Fifo}
use Rattle.line_kinds.specs.declared.kinds.FaultKind.{FaultKind}
use Rattle.line_kinds.specs.declared.kinds.FaultKind.TheVariants as fault
use Rattle.line_kinds.specs.declared.kinds.BreachKind.{BreachKind}
use Rattle.line_kinds.specs.declared.kinds.BreachKind.TheVariants as breach
use Rattle.line_kinds.specs.declared.kinds.Mode.{Mode}
use Rattle.line_kinds.specs.declared.kinds.Mode.TheVariants.{Runs, Halted, Stopped}

infixl 10 ◌>>=◌
abbrev pub ◌>>=◌ : {A B : Type 0} → Option A → (A → Option B) → Option B
o >>= f = option_and_then f o

-- the first word, and what is behind the space after it
unfoldable pub front_word : List ℕ → List ℕ
front_word text = before_first is_space text

unfoldable pub rest_of : List ℕ → List ℕ
rest_of text = after_first is_space text

abbrev pub if_below : ℕ → Option ℕ → Option ℕ
if_below limit None = None
if_below limit (Some n) = if nat_lt n limit then Some n else None

-- decimal numbers of 32 and of 8 bits
unfoldable pub number_in : List ℕ → Option ℕ
number_in text = if_below (2 ^ 32) (decimal_in text)

unfoldable pub small_in : List ℕ → Option ℕ
small_in text = if_below (2 ^ 8) (decimal_in text)

-- two, four and eight hexadecimal digits
unfoldable pub byte_in : List ℕ → Option ℕ
byte_in text = hex_in 2 text

unfoldable pub word_in : List ℕ → Option ℕ
word_in text = hex_in 4 text

unfoldable pub doubleword_in : List ℕ → Option ℕ
doubleword_in text = hex_in 8 text

abbrev pub negative_of : ℕ → Option ℤ
negative_of n = if nat_lt (2 ^ 31) n then None else Some (neg_ℤ (pos n))

abbrev pub positive_of : ℕ → Option ℤ
positive_of n = if nat_lt n (2 ^ 31) then Some (pos n) else None

-- a decimal number of 32 bits, with `-` (45) before a negative one
unfoldable pub signed_in : List ℕ → Option ℤ
signed_in [] = None
signed_in (c ∷ digits) = if c == 45 then number_in digits >>= negative_of else number_in (c ∷ digits) >>= positive_of

-- up to 256 bytes
unfoldable pub bytes_in : List ℕ → Option (List ℕ)
bytes_in text = if bytes_eq text (codes "-") then Some [] else if nat_lt 256 (length text / 2) then None else result_ok (decode_sized text (length text / 2))

unfoldable pub digest_in : List ℕ → Option (List ℕ)
digest_in text = result_ok (decode_sized text 32)

-- so many words of eight digits, and what is behind them
unfoldable pub words_in : ℕ → List ℕ → Option (List ℕ)
words_in zero text = Some []
words_in (suc n) text = do
  word ← doubleword_in (front_word text)
  words ← words_in n (rest_of text)
  Some (word ∷ words)

unfoldable pub after_four : List ℕ → List ℕ
after_four text = rest_of (rest_of (rest_of (rest_of text)))

unfoldable pub numbered_in : List ℕ → List ℕ → Option Who
numbered_in kind number = if bytes_eq kind (codes "thread") then option_map Thread (small_in number)
    else if bytes_eq kind (codes "init") then option_map Init (small_in number)
    else if bytes_eq kind (codes "irq") then option_map Irq (small_in number)
    else if bytes_eq kind (codes "fifo") then option_map Fifo (small_in number)
    else None

-- who stands first, in one word or two, and what is behind
unfoldable pub who_in : List ℕ → Option Who
who_in text = if bytes_eq (front_word text) (codes "guest") then Some Guest else numbered_in (front_word text) (front_word (rest_of text))

unfoldable pub after_who : List ℕ → List ℕ
after_who text = if bytes_eq (front_word text) (codes "guest") then rest_of text else rest_of (rest_of text)

unfoldable pub fault_in : List ℕ → Option FaultKind
fault_in word = if bytes_eq word (codes "divide") then Some fault.Divide
    else if bytes_eq word (codes "opcode") then Some fault.Opcode
    else if bytes_eq word (codes "int") then Some fault.Int
    else if bytes_eq word (codes "memory") then Some fault.Memory
    else if bytes_eq word (codes "port") then Some fault.Port
    else if bytes_eq word (codes "privileged") then Some fault.Privileged
    else None

unfoldable pub mode_in : List ℕ → Option Mode
mode_in word = if bytes_eq word (codes "runs") then Some Runs
    else if bytes_eq word (codes "halted") then Some Halted
    else if bytes_eq word (codes "stopped") then Some Stopped
    else None

-- what stopped the guest: an instruction alone, or a kind and a number
unfoldable pub plain_breach_in : List ℕ → Option BreachKind
plain_breach_in word = if bytes_eq word (codes "cli") then Some breach.Cli
    else if bytes_eq word (codes "sti") then Some breach.Sti
    else if bytes_eq word (codes "iret") then Some breach.Iret
    else if bytes_eq word (codes "pushf") then Some breach.Pushf
    else if bytes_eq word (codes "popf") then Some breach.Popf
    else if bytes_eq word (codes "hlt") then Some breach.Hlt
    else None

unfoldable pub breach_in : List ℕ → List ℕ → Option BreachKind
breach_in word number = if bytes_eq word (codes "int") then option_map breach.Int (number_in number)
    else if bytes_eq word (codes "port") then option_map breach.Port (word_in number)
    else if bytes_eq word (codes "fetch") then option_map breach.Fetch (doubleword_in number)
    else if bytes_eq word (codes "load") then option_map breach.Load (doubleword_in number)
    else if bytes_eq word (codes "store") then option_map breach.Store (doubleword_in number)
    else plain_breach_in word
