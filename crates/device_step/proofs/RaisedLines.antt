-- The script's lines of a tick: which they are, which of them are asked of the guest, and which are marked for modules.
use Rattle.std.proofs.Common.{◌≡◌, ℕ, Bool, true, false, not, ◌&&◌, ◌||◌, ◌==◌, List, [], ◌∷◌, refl, sym, ap, ◌∙◌, arith, inl, inr, fold}
use Rattle.std.specs.Prelude.{if◌then◌else◌}
use Rattle.std.specs.List.{list_all}
use Rattle.std.proofs.lemmas.Bool.{cases_Bool, and_parts}
use Rattle.std.proofs.lemmas.Bool.Decides.{nat_tests}
use Rattle.line_sets.specs.LineSet.{has, with_line}
use Rattle.line_sets.proofs.LineSetLemmas.{has-zero, has-with}
use Rattle.device_script.specs.Event.{is_line, is_device_event}
use Rattle.device_script.specs.Events.{lines_of}
use Rattle.device_script.specs.declared.event.Event.{Event}
use Rattle.device_script.specs.declared.event.Event.TheVariants.{Line, Com1, Com2}
use Rattle.port_board.specs.Board.{AreEvents}
use Rattle.rt_irqs.specs.Irqs.{Lines, is_held}
use Rattle.run_lines.specs.Says.{lines_asked}
use Rattle.priority_schedule.specs.Tick.{marked_if_held}
use Rattle.hardware_steps.proofs.EdgeSets.{among}

-- a line that a script can't have isn't among them
pub not_among : (n : ℕ) (events : List Event) → is_line n ≡ false → AreEvents events → among n (lines_of events) ≡ false
not_among n [] none are = refl
not_among n (Line m ∷ events) none are =
    let parts = and_parts (is_line m) (list_all is_device_event events) are in
    elim (cases_Bool (m == n)) [
      | inl same ↦ absurd (let e : m ≡ n = grind (arith, nat_tests) in let clash : false ≡ true = sym none ∙ ap is_line (sym e) ∙ parts.0 in cc)
      | inr other ↦ rw other (not_among n events none parts.1)
    ]
not_among n (Com1 v ∷ events) none are = not_among n events none are
not_among n (Com2 v ∷ events) none are = not_among n events none are

same_test : (n m : ℕ) → (n == m) ≡ (m == n)
same_test n m = grind (arith, nat_tests)

held_first : (a h k : Bool) → (k ≡ true → h ≡ true) → (a && not h) ≡ ((k || a) && not h)
held_first a h true i = rw (i refl) (grind arith)
held_first a h false i = refl

free_first : (a h k : Bool) → (k ≡ true → h ≡ false) → (k || (a && not h)) ≡ ((k || a) && not h)
free_first a h true i = rw (i refl) refl
free_first a h false i = refl

-- those that no module holds are asked
pub asked_line : (held n : ℕ) (script : List ℕ) → has (lines_asked held script) n ≡ (among n script && not (has held n))
asked_line held n [] = has-zero n
asked_line held n (m ∷ script) = elim (cases_Bool (has held m)) [
  | inl yes_ ↦ rw yes_ (asked_line held n script
      ∙ held_first (among n script) (has held n) (m == n) (λ s. let e : m ≡ n = grind (arith, nat_tests) in ap (has held) (sym e) ∙ yes_))
  | inr free ↦ rw free (has-with (lines_asked held script) m n
      ∙ ap (λ b. b || has (lines_asked held script) n) (same_test n m)
      ∙ ap (λ b. (m == n) || b) (asked_line held n script)
      ∙ free_first (among n script) (has held n) (m == n) (λ s. let e : m ≡ n = grind (arith, nat_tests) in ap (has held) (sym e) ∙ free))
]

held_more : (a b h k : Bool) → (k ≡ true → h ≡ true) → ((k || a) || (b && h)) ≡ (a || ((k || b) && h))
held_more a b h true i = rw (i refl) (grind arith)
held_more a b h false i = refl

free_more : (a b h k : Bool) → (k ≡ true → h ≡ false) → (a || (b && h)) ≡ (a || ((k || b) && h))
free_more a b h true i = rw (i refl) (grind arith)
free_more a b h false i = refl

-- those that a module holds are marked
pub marked_line : (irqs : Lines) (n marked : ℕ) (script : List ℕ)
    → has (fold (marked_if_held irqs) marked script) n ≡ (has marked n || (among n script && is_held irqs n))
marked_line irqs n marked [] = grind arith
marked_line irqs n marked (m ∷ script) = elim (cases_Bool (is_held irqs m)) [
  | inl held ↦ rw held (marked_line irqs n (with_line marked m) script
      ∙ ap (λ b. b || (among n script && is_held irqs n)) (has-with marked m n)
      ∙ ap (λ b. (b || has marked n) || (among n script && is_held irqs n)) (same_test n m)
      ∙ held_more (has marked n) (among n script) (is_held irqs n) (m == n)
      (λ s. let e : m ≡ n = grind (arith, nat_tests) in ap (is_held irqs) (sym e) ∙ held))
  | inr free ↦ rw free (marked_line irqs n marked script
      ∙ free_more (has marked n) (among n script) (is_held irqs n) (m == n)
      (λ s. let e : m ≡ n = grind (arith, nat_tests) in ap (is_held irqs) (sym e) ∙ free))
]

-- a line that joins a set where a test holds
pub joined_line : (b : Bool) (k n set : ℕ) → has (if b then with_line set k else set) n ≡ ((n == k && b) || has set n)
joined_line true k n set = has-with set k n ∙ joins (has set n) n k
  where
    joins : (x : Bool) (n k : ℕ) → ((n == k) || x) ≡ ((n == k && true) || x)
    joins x n k = grind arith
joined_line false k n set = grind arith
