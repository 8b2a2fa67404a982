-- Sets of lines and lists of lines, line by line.
use Rattle.std.proofs.Common.{◌≡◌, ◌≢◌, ℕ, zero, suc, ◌+◌, ◌<◌, ◌≤◌, ◌^◌, Bool, true, false, ◌&&◌, ◌||◌, ◌==◌, List, [], ◌∷◌, refl, sym, ap, ◌∙◌, arith, inl, inr, cond, filter}
use Rattle.std.specs.Prelude.{nat_lt}
use Rattle.std.specs.List.{list_any, range_with_len}
use Rattle.std.proofs.lemmas.Bool.{cases_Bool}
use Rattle.std.proofs.lemmas.Bool.Decides.{nat_tests}
use Rattle.line_sets.specs.LineSet.{has, with_line}
use Rattle.line_sets.proofs.LineSetLemmas.{same_lines, has-zero, has-with, has_above}
use Rattle.device_script.specs.Events.{lines_of}
use Rattle.device_script.specs.declared.event.Event.{Event}
use Rattle.device_script.specs.declared.event.Event.TheVariants.{Line, Com1, Com2}
use Rattle.port_board.specs.Steps.{is_raised}
use Rattle.hardware_lines.specs.Hardware.{latched, with_if, rising_order}

abbrev pub among : ℕ → List ℕ → Bool
among n lines = list_any (λ k. k == n) lines

-- a line of the script is among its lines
pub raised_is : (n : ℕ) (events : List Event) → is_raised n events ≡ among n (lines_of events)
raised_is n [] = refl
raised_is n (Line m ∷ events) = ap (λ x. (m == n) || x) (raised_is n events)
raised_is n (Com1 v ∷ events) = raised_is n events
raised_is n (Com2 v ∷ events) = raised_is n events

-- lines picked by a test
picked_line : (n : ℕ) (edges : ℕ) (lines : List ℕ) → among n (filter (has edges) lines) ≡ (has edges n && among n lines)
picked_line n edges [] = grind arith
picked_line n edges (m ∷ lines) = elim (cases_Bool (m == n)) [
  | inl same ↦
      let e : m ≡ n = grind (arith, nat_tests) in
      elim (has edges m) as (λ b. has edges m ≡ b → among n (cond b (m ∷ filter (has edges) lines) (filter (has edges) lines)) ≡ (has edges n && ((m == n) || among n lines))) [
        | true ↦ λ h. let g : has edges n ≡ true = ap (has edges) (sym e) ∙ h in rw (same, g) refl
        | false ↦ λ h. let g : has edges n ≡ false = ap (has edges) (sym e) ∙ h in picked_line n edges lines ∙ rw g refl
      ] refl
  | inr other ↦
      elim (has edges m) as (λ b. among n (cond b (m ∷ filter (has edges) lines) (filter (has edges) lines)) ≡ (has edges n && ((m == n) || among n lines))) [
        | true ↦ rw other (picked_line n edges lines)
        | false ↦ rw other (picked_line n edges lines)
      ]
]

in_run : (k a n : ℕ) → a ≤ n → n < a + k → among n (range_with_len a k) ≡ true
in_run zero a n low high = absurd (omega arith)
in_run (suc k) a n low high = elim (cases_Bool (a == n)) [
  | inl same ↦ rw same refl
  | inr other ↦ let ne : a ≢ n = λ e. (let t : (a == n) ≡ true = grind (arith, nat_tests, e) in absurd (let f : true ≡ false = sym t ∙ other in cc)) in
      rw other (in_run k (a + 1) n (omega arith) (omega arith))
]

picked_all : (n edges : ℕ) → edges < 2 ^ 16 → (has edges n && among n rising_order) ≡ has edges n
picked_all n edges small = elim (cases_Bool (nat_lt n 16)) [
  | inl low ↦ let l : n < 16 = grind (arith, nat_tests) in rw (in_run 16 0 n (omega arith) (omega arith)) (grind arith)
  | inr high ↦ let l : 16 ≤ n = grind (arith, nat_tests) in rw (has_above edges 16 n small l) refl
]

shuffle : (a b c : Bool) → ((a || b) || c) ≡ (b || (a || c))
shuffle true true c = refl
shuffle true false c = refl
shuffle false b c = refl

same_test : (n m : ℕ) → (n == m) ≡ (m == n)
same_test n m = grind (arith, nat_tests)

latched_line : (n l : ℕ) (lines : List ℕ) → has (latched l lines) n ≡ (has l n || among n lines)
latched_line n l [] = grind arith
latched_line n l (m ∷ lines) =
    latched_line n (with_line l m) lines ∙ ap (λ x. x || among n lines) (has-with l m n)
    ∙ ap (λ x. (x || has l n) || among n lines) (same_test n m)
    ∙ shuffle (m == n) (has l n) (among n lines)

-- the lines of a set, latched one after another
pub latched_set : (l edges after : ℕ) → edges < 2 ^ 16 → ((n : ℕ) → has after n ≡ (has l n || has edges n))
    → after ≡ latched l (filter (has edges) rising_order)
latched_set l edges after small h = same_lines _ _ (λ n.
    h n ∙ ap (λ x. has l n || x) (sym (picked_line n edges rising_order ∙ picked_all n edges small))
    ∙ sym (latched_line n l (filter (has edges) rising_order)))

joins : (x : Bool) (n k : ℕ) → ((n == k) || x) ≡ ((n == k && true) || x)
joins x n k = grind arith

with_if_line : (b : Bool) (k n edges : ℕ) → has (with_if b k edges) n ≡ ((n == k && b) || has edges n)
with_if_line true k n edges = has-with edges k n ∙ joins (has edges n) n k
with_if_line false k n edges = grind arith

pub edges_line : (timer com1 com2 : Bool) (script : List ℕ) (n : ℕ)
    → has (with_if timer 0 (with_if com1 4 (with_if com2 3 (latched 0 script)))) n ≡ ((n == 0 && timer) || ((n == 4 && com1) || ((n == 3 && com2) || among n script)))
edges_line timer com1 com2 script n =
    with_if_line timer 0 n _
    ∙ ap (λ x. (n == 0 && timer) || x) (with_if_line com1 4 n _
    ∙ ap (λ x. (n == 4 && com1) || x) (with_if_line com2 3 n _
    ∙ ap (λ x. (n == 3 && com2) || x) (latched_line n 0 script ∙ ap (λ x. x || among n script) (has-zero n))))
