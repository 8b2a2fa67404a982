-- Who it is, faults, modes and breaches are read back from their words.
use Rattle.std.proofs.Common.{◌≡◌, ℕ, ◌^◌, ◌<◌, true, List, [], ◌∷◌, ◌++◌, drop, Some, refl, ap, arith, decimal, codes}
use Rattle.std.specs.Prelude.{option_map}
use Rattle.line_text.specs.LineText.{hex_text}
use Rattle.line_kinds.specs.declared.kinds.Who.{Who}
use Rattle.line_kinds.specs.declared.kinds.Who.TheVariants.{Guest, Thread, Init, Irq, Fifo}
use Rattle.line_kinds.specs.declared.kinds.FaultKind.{FaultKind}
use Rattle.line_kinds.specs.declared.kinds.FaultKind.TheVariants as fault
use Rattle.line_kinds.specs.declared.kinds.BreachKind.{BreachKind}
use Rattle.line_kinds.specs.declared.kinds.BreachKind.TheVariants as breach
use Rattle.line_kinds.specs.declared.kinds.Mode.{Mode}
use Rattle.line_kinds.specs.declared.kinds.Mode.TheVariants.{Runs, Halted, Stopped}
use Rattle.trace_lines.specs.Fits.{IsWho, IsBreach}
use Rattle.trace_lines.specs.Text.{who_words, fault_word, mode_word, breach_words}
use Rattle.trace_lines.specs.Words.{front_word, rest_of, numbered_in, who_in, after_who, fault_in, mode_in, plain_breach_in, breach_in}
use Rattle.trace_lines.proofs.Cutting.{AtSpace, spaceless, first_word, behind_word, only_word, behind_only}
use Rattle.trace_lines.proofs.HexAgain.{word_again, doubleword_again}
use Rattle.trace_lines.proofs.Numbers.{number_again, small_again, plain_decimal}

-- a kind, a number and what is behind them
number_word : (kind tail : List ℕ) (n : ℕ) → spaceless kind ≡ true → n < 2 ^ 8 → AtSpace tail → front_word (rest_of (kind ++ (32 ∷ (decimal n ++ tail)))) ≡ decimal n
number_word kind tail n plain small at =
    rw (behind_word kind (32 ∷ (decimal n ++ tail)) plain refl) (first_word (decimal n) tail (plain_decimal n (omega arith)) at)

behind_number : (kind tail : List ℕ) (n : ℕ) → spaceless kind ≡ true → n < 2 ^ 8 → AtSpace tail → rest_of (rest_of (kind ++ (32 ∷ (decimal n ++ tail)))) ≡ drop 1 tail
behind_number kind tail n plain small at =
    rw (behind_word kind (32 ∷ (decimal n ++ tail)) plain refl) (behind_word (decimal n) tail (plain_decimal n (omega arith)) at)

kind_word : (kind tail : List ℕ) (n : ℕ) → spaceless kind ≡ true → front_word (kind ++ (32 ∷ (decimal n ++ tail))) ≡ kind
kind_word kind tail n plain = first_word kind (32 ∷ (decimal n ++ tail)) plain refl

pub who_again : (who : Who) (tail : List ℕ) → IsWho who → AtSpace tail → who_in (who_words who ++ tail) ≡ Some who
unfolding who_in numbered_in
who_again Guest tail fits at = rw (first_word (codes "guest") tail refl at) refl
who_again (Thread n) tail fits at = rw (kind_word (codes "thread") tail n refl, number_word (codes "thread") tail n refl fits at, small_again n fits) refl
who_again (Init n) tail fits at = rw (kind_word (codes "init") tail n refl, number_word (codes "init") tail n refl fits at, small_again n fits) refl
who_again (Irq n) tail fits at = rw (kind_word (codes "irq") tail n refl, number_word (codes "irq") tail n refl fits at, small_again n fits) refl
who_again (Fifo n) tail fits at = rw (kind_word (codes "fifo") tail n refl, number_word (codes "fifo") tail n refl fits at, small_again n fits) refl

pub behind_who : (who : Who) (tail : List ℕ) → IsWho who → AtSpace tail → after_who (who_words who ++ tail) ≡ drop 1 tail
unfolding after_who
behind_who Guest tail fits at = rw (first_word (codes "guest") tail refl at, behind_word (codes "guest") tail refl at) refl
behind_who (Thread n) tail fits at = rw (kind_word (codes "thread") tail n refl, behind_number (codes "thread") tail n refl fits at) refl
behind_who (Init n) tail fits at = rw (kind_word (codes "init") tail n refl, behind_number (codes "init") tail n refl fits at) refl
behind_who (Irq n) tail fits at = rw (kind_word (codes "irq") tail n refl, behind_number (codes "irq") tail n refl fits at) refl
behind_who (Fifo n) tail fits at = rw (kind_word (codes "fifo") tail n refl, behind_number (codes "fifo") tail n refl fits at) refl

pub fault_again : (kind : FaultKind) → fault_in (fault_word kind) ≡ Some kind
unfolding fault_in
fault_again fault.Divide = refl
fault_again fault.Opcode = refl
fault_again fault.Int = refl
fault_again fault.Memory = refl
fault_again fault.Port = refl
fault_again fault.Privileged = refl

pub mode_again : (mode : Mode) → mode_in (mode_word mode) ≡ Some mode
unfolding mode_in
mode_again Runs = refl
mode_again Halted = refl
mode_again Stopped = refl

pub plain_mode : (mode : Mode) → spaceless (mode_word mode) ≡ true
plain_mode Runs = refl
plain_mode Halted = refl
plain_mode Stopped = refl

-- a breach, by its first word and what is behind it
abbrev Breaks : BreachKind → List ℕ → Type 0
Breaks kind text = breach_in (front_word text) (rest_of text) ≡ Some kind

alone : (kind : BreachKind) (word : List ℕ) → spaceless word ≡ true → breach_in word [] ≡ Some kind → Breaks kind word
alone kind word plain read = rw (only_word word plain, behind_only word plain) read

valued : (kind : BreachKind) (word value : List ℕ) → spaceless word ≡ true → breach_in word value ≡ Some kind → Breaks kind (word ++ (32 ∷ value))
valued kind word value plain read = rw (first_word word (32 ∷ value) plain refl, behind_word word (32 ∷ value) plain refl) read

pub breach_again : (kind : BreachKind) → IsBreach kind → breach_in (front_word (breach_words kind)) (rest_of (breach_words kind)) ≡ Some kind
unfolding breach_in plain_breach_in
breach_again breach.Cli fits = alone breach.Cli (codes "cli") refl refl
breach_again breach.Sti fits = alone breach.Sti (codes "sti") refl refl
breach_again breach.Iret fits = alone breach.Iret (codes "iret") refl refl
breach_again breach.Pushf fits = alone breach.Pushf (codes "pushf") refl refl
breach_again breach.Popf fits = alone breach.Popf (codes "popf") refl refl
breach_again breach.Hlt fits = alone breach.Hlt (codes "hlt") refl refl
breach_again (breach.Int n) fits = valued (breach.Int n) (codes "int") (decimal n) refl (ap (option_map breach.Int) (number_again n fits))
breach_again (breach.Port n) fits = valued (breach.Port n) (codes "port") (hex_text 4 n) refl (ap (option_map breach.Port) (word_again n fits))
breach_again (breach.Fetch n) fits = valued (breach.Fetch n) (codes "fetch") (hex_text 8 n) refl (ap (option_map breach.Fetch) (doubleword_again n fits))
breach_again (breach.Load n) fits = valued (breach.Load n) (codes "load") (hex_text 8 n) refl (ap (option_map breach.Load) (doubleword_again n fits))
breach_again (breach.Store n) fits = valued (breach.Store n) (codes "store") (hex_text 8 n) refl (ap (option_map breach.Store) (doubleword_again n fits))
