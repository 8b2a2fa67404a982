-- The sets of lines that are asked of the guest and of modules, over drains, rises and changes of owners.
use Rattle.std.proofs.Common.{◌≢◌, ◌==◌, inl, inr, ◌≡◌, ℕ, Bool, true, false, not, ◌&&◌, ◌||◌, refl, sym, ap, ◌∙◌, arith}
use Rattle.std.proofs.lemmas.Bool.{cases_Bool}
use Rattle.std.proofs.lemmas.Bool.Decides.{nat_tests}
use Rattle.line_sets.specs.LineSet.{has, union, minus, with_line}
use Rattle.line_sets.proofs.LineSetLemmas.{same_lines, has-zero, has-union, has-minus, has-common, has-with}
use Rattle.rt_irqs.specs.Irqs.{Lines, IsLines, is_held}
use Rattle.hard_dispatch.specs.Dispatch.{guest_lines, module_lines, held_lines, owner_of, guest_after, lines_after}
use Rattle.hard_dispatch.proofs.Owners.{has-held_lines, has-nine}
use Rattle.hard_dispatch.specs.Sets.{asked_lines, marked_lines, DrainKeepsSets, OwnerChanges, RisesAsk}

or_none : (a : Bool) → (a || false) ≡ a
or_none a = grind arith

-- nothing latched gives nothing
none_for_guest : (irqs : Lines) → guest_lines 0 irqs ≡ 0
none_for_guest irqs = same_lines _ _ (λ n.
    has-minus (minus 0 (held_lines irqs)) 9 n
    ∙ ap (λ b. b && not (has 9 n)) (has-minus 0 (held_lines irqs) n ∙ ap (λ b. b && not (has (held_lines irqs) n)) (has-zero n))
    ∙ sym (has-zero n))

none_for_modules : (irqs : Lines) → module_lines 0 irqs ≡ 0
none_for_modules irqs = same_lines _ _ (λ n. has-common 0 (held_lines irqs) n ∙ ap (λ b. b && has (held_lines irqs) n) (has-zero n) ∙ sym (has-zero n))

union_none : (a : ℕ) → union a 0 ≡ a
union_none a = same_lines _ _ (λ n. has-union a 0 n ∙ ap (λ b. has a n || b) (has-zero n) ∙ or_none (has a n))

pub sets_kept : DrainKeepsSets
sets_kept latch pending irqs = record {
  asked = ap (union (asked_lines latch irqs pending)) (none_for_guest (marked_lines latch irqs)) ∙ union_none (asked_lines latch irqs pending);
  marked = ap (λ m. record (marked_lines latch irqs) { marked = m })
      (ap (union (marked_lines latch irqs).marked) (none_for_modules (marked_lines latch irqs)) ∙ union_none (marked_lines latch irqs).marked);
}

-- rises

pub guest_line : (latch k : ℕ) (irqs : Lines) → has (guest_lines latch irqs) k ≡ ((has latch k && not (is_held irqs k)) && not (k == 0 || k == 3))
guest_line latch k irqs =
    has-minus (minus latch (held_lines irqs)) 9 k
    ∙ ap (λ b. b && not (has 9 k)) (has-minus latch (held_lines irqs) k ∙ ap (λ b. has latch k && not b) (has-held_lines irqs k))
    ∙ ap (λ b. (has latch k && not (is_held irqs k)) && not b) (has-nine k)

pub module_line : (latch k : ℕ) (irqs : Lines) → has (module_lines latch irqs) k ≡ (has latch k && is_held irqs k)
module_line latch k irqs = has-common latch (held_lines irqs) k ∙ ap (λ b. has latch k && b) (has-held_lines irqs k)

-- by the owner of the line that rose
asked_at : (irqs : Lines) (n k old : ℕ) → has (guest_after (owner_of irqs n) n old) k ≡ (has old k || (k == n && (not (is_held irqs n) && not (n == 0 || n == 3))))
asked_at irqs n k old = elim (cases_Bool (n == 0)) [
  | inl zero_ ↦ rw zero_ (no_more (has old k) (k == n) (is_held irqs n))
  | inr some ↦ elim (cases_Bool (is_held irqs n)) [
    | inl held ↦ rw (some, held) (grind arith)
    | inr free ↦ elim (cases_Bool (n == 3)) [
      | inl three ↦ rw (some, free, three) (grind arith)
      | inr other ↦ rw (some, free, other) (has-with old n k ∙ grind arith)
    ]
  ]
]
  where
    no_more : (a b c : Bool) → a ≡ (a || (b && (not c && false)))
    no_more a b true = grind arith
    no_more a b false = grind arith

one_more : (p l e h z : Bool) → (p || (((e || l) && not h) && not z)) ≡ ((p || ((l && not h) && not z)) || (e && (not h && not z)))
one_more p l e true true = grind arith
one_more p l e true false = grind arith
one_more p l e false true = grind arith
one_more true l e false false = refl
one_more false true e false false = grind arith
one_more false false e false false = grind arith

same_line : (irqs : Lines) (n k : ℕ) (p l : Bool) → (p || ((((k == n) || l) && not (is_held irqs k)) && not (k == 0 || k == 3))) ≡ ((p || ((l && not (is_held irqs k)) && not (k == 0 || k == 3))) || (k == n && (not (is_held irqs n) && not (n == 0 || n == 3))))
same_line irqs n k p l = elim (cases_Bool (k == n)) [
  | inl same ↦ let e : k ≡ n = grind (arith, nat_tests) in rw same (ap (λ j. p || (((true || l) && not (is_held irqs j)) && not (j == 0 || j == 3))) e
      ∙ one_more p l true (is_held irqs n) (n == 0 || n == 3)
      ∙ ap (λ j. (p || ((l && not (is_held irqs j)) && not (j == 0 || j == 3))) || (true && (not (is_held irqs n) && not (n == 0 || n == 3)))) (sym e))
  | inr other ↦ rw other (grind arith)
]

pub asked_rises : (latch n pending : ℕ) (irqs : Lines) → asked_lines (with_line latch n) irqs pending ≡ guest_after (owner_of irqs n) n (asked_lines latch irqs pending)
asked_rises latch n pending irqs = same_lines _ _ (λ k.
    has-union pending (guest_lines (with_line latch n) irqs) k
    ∙ ap (λ b. has pending k || b) (guest_line (with_line latch n) k irqs ∙ ap (λ b. (b && not (is_held irqs k)) && not (k == 0 || k == 3)) (has-with latch n k))
    ∙ same_line irqs n k (has pending k) (has latch k)
    ∙ ap (λ b. b || (k == n && (not (is_held irqs n) && not (n == 0 || n == 3)))) (ap (λ b. has pending k || b) (sym (guest_line latch k irqs)) ∙ sym (has-union pending (guest_lines latch irqs) k))
    ∙ sym (asked_at irqs n k (asked_lines latch irqs pending)))

-- where a line isn't latched
alike : (n k : ℕ) (l x y : Bool) → (k ≡ n → l ≡ false) → (k ≢ n → x ≡ y) → (l && x) ≡ (l && y)
alike n k true x y e f = ap (λ b. true && b) (f (λ s. let t : true ≡ false = e s in absurd cc))
alike n k false x y e f = refl

pub owner_changes : OwnerChanges
owner_changes latch n irqs after none same = record {
  asked = same_lines _ _ (λ k. guest_line latch k after
      ∙ ap (λ b. b && not (k == 0 || k == 3)) (alike n k (has latch k) (not (is_held after k)) (not (is_held irqs k)) (λ e. ap (has latch) e ∙ none) (λ ne. ap not (same k ne)))
      ∙ sym (guest_line latch k irqs));
  modules = same_lines _ _ (λ k. module_line latch k after
      ∙ alike n k (has latch k) (is_held after k) (is_held irqs k) (λ e. ap (has latch) e ∙ none) (λ ne. same k ne)
      ∙ sym (module_line latch k irqs));
}

-- the marks of the lines that modules hold

mark_held : (irqs : Lines) (latch n k : ℕ) → is_held irqs n ≡ true → (has irqs.marked k || (((k == n) || has latch k) && is_held irqs k)) ≡ ((k == n) || (has irqs.marked k || (has latch k && is_held irqs k)))
mark_held irqs latch n k h = elim (cases_Bool (k == n)) [
  | inl same ↦ let e : k ≡ n = grind (arith, nat_tests) in let g : is_held irqs k ≡ true = ap (is_held irqs) e ∙ h in rw (same, g) (grind arith)
  | inr other ↦ rw other refl
]

mark_free : (irqs : Lines) (latch n k : ℕ) → is_held irqs n ≡ false → (has irqs.marked k || (((k == n) || has latch k) && is_held irqs k)) ≡ (has irqs.marked k || (has latch k && is_held irqs k))
mark_free irqs latch n k h = elim (cases_Bool (k == n)) [
  | inl same ↦ let e : k ≡ n = grind (arith, nat_tests) in let g : is_held irqs k ≡ false = ap (is_held irqs) e ∙ h in rw (same, g) (grind arith)
  | inr other ↦ rw other refl
]

marks_of : (irqs : Lines) (latch n k : ℕ) → has (union irqs.marked (module_lines (with_line latch n) irqs)) k ≡ (has irqs.marked k || (((k == n) || has latch k) && is_held irqs k))
marks_of irqs latch n k =
    has-union irqs.marked (module_lines (with_line latch n) irqs) k
    ∙ ap (λ b. has irqs.marked k || b) (module_line (with_line latch n) k irqs ∙ ap (λ b. b && is_held irqs k) (has-with latch n k))

marks_before : (irqs : Lines) (latch k : ℕ) → has (union irqs.marked (module_lines latch irqs)) k ≡ (has irqs.marked k || (has latch k && is_held irqs k))
marks_before irqs latch k = has-union irqs.marked (module_lines latch irqs) k ∙ ap (λ b. has irqs.marked k || b) (module_line latch k irqs)

held_rise : (irqs : Lines) (latch n : ℕ) → is_held irqs n ≡ true → marked_lines (with_line latch n) irqs ≡ record (marked_lines latch irqs) { marked = with_line (marked_lines latch irqs).marked n }
held_rise irqs latch n h = ap (λ m. record irqs { marked = m }) (same_lines _ _ (λ k.
    marks_of irqs latch n k ∙ mark_held irqs latch n k h ∙ ap (λ b. (k == n) || b) (sym (marks_before irqs latch k)) ∙ sym (has-with (union irqs.marked (module_lines latch irqs)) n k)))

free_rise : (irqs : Lines) (latch n : ℕ) → is_held irqs n ≡ false → marked_lines (with_line latch n) irqs ≡ marked_lines latch irqs
free_rise irqs latch n h = ap (λ m. record irqs { marked = m }) (same_lines _ _ (λ k. marks_of irqs latch n k ∙ mark_free irqs latch n k h ∙ sym (marks_before irqs latch k)))

zero_free : (irqs : Lines) → IsLines irqs → is_held irqs 0 ≡ false
zero_free irqs is = elim (cases_Bool (is_held irqs 0)) [ inl held ↦ absurd (let e : false ≡ true = is.holdable 0 held in cc) | inr free ↦ free ]

marked_rises : (latch n : ℕ) (irqs : Lines) → IsLines irqs → marked_lines (with_line latch n) irqs ≡ lines_after (owner_of irqs n) n (marked_lines latch irqs)
marked_rises latch n irqs is = elim (cases_Bool (n == 0)) [
  | inl timer ↦ let e : n ≡ 0 = grind (arith, nat_tests) in rw timer (free_rise irqs latch n (ap (is_held irqs) e ∙ zero_free irqs is))
  | inr some ↦ elim (cases_Bool (is_held irqs n)) [
    | inl held ↦ rw (some, held) (held_rise irqs latch n held)
    | inr free ↦ elim (cases_Bool (n == 3)) [
      | inl three ↦ rw (some, free, three) (free_rise irqs latch n free)
      | inr other ↦ rw (some, free, other) (free_rise irqs latch n free)
    ]
  ]
]

pub rises_ask : RisesAsk
rises_ask latch n pending irqs is = record { asked = asked_rises latch n pending irqs; marked = marked_rises latch n irqs is }
