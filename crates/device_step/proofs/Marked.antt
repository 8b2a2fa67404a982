-- What is marked for modules after a device step: what was, the script's lines that they hold, and line 3 where COM2 rose and it is held.
use Rattle.std.proofs.Common.{◌≡◌, ℕ, Bool, true, false, ◌&&◌, ◌||◌, ◌==◌, List, sym, ap, ◌∙◌, arith, inl, inr, fold}
use Rattle.std.proofs.lemmas.Bool.{cases_Bool}
use Rattle.std.proofs.lemmas.Bool.Decides.{nat_tests}
use Rattle.line_sets.specs.LineSet.{has}
use Rattle.line_sets.proofs.LineSetLemmas.{same_lines, has-union}
use Rattle.rt_irqs.specs.Irqs.{Lines, IsLines, is_held}
use Rattle.hard_dispatch.specs.Dispatch.{module_lines}
use Rattle.hard_dispatch.specs.Sets.{marked_lines}
use Rattle.hard_dispatch.proofs.SetsKept.{module_line}
use Rattle.priority_schedule.specs.Tick.{marked_if_held}
use Rattle.priority_schedule.specs.Unit.{marked_by}
use Rattle.hardware_steps.proofs.EdgeSets.{among}
use Rattle.device_step.proofs.RaisedLines.{marked_line, joined_line}
use Rattle.device_step.proofs.Asked.{Causes, Rises, zero_free, four_free}

no_cause : (m l h s com2 first : Bool) → h ≡ false → (m || ((l || first) && h)) ≡ ((false && com2) || ((m || (l && h)) || (s && h)))
no_cause m l h s com2 first free = rw free (grind arith)

at_three : (timer com1 com2 m l h s : Bool)
    → (m || ((l || ((false && timer) || ((false && com1) || ((true && com2) || s)))) && h)) ≡ ((true && (com2 && h)) || ((m || (l && h)) || (s && h)))
at_three timer com1 com2 true l true s = grind arith
at_three timer com1 true false true true s = grind arith
at_three timer com1 true false false true s = grind arith
at_three timer com1 false false l true s = grind arith
at_three timer com1 com2 m l false s = grind arith

at_other : (timer com1 com2 m l h s : Bool)
    → (m || ((l || ((false && timer) || ((false && com1) || ((false && com2) || s)))) && h)) ≡ ((false && com2) || ((m || (l && h)) || (s && h)))
at_other timer com1 com2 true l h s = grind arith
at_other timer com1 com2 false l true s = grind arith
at_other timer com1 com2 false l false s = grind arith

marks_at : (irqs : Lines) (script : List ℕ) (timer com1 com2 m l : Bool) (n : ℕ) → IsLines irqs
    → (m || ((l || Causes timer com1 com2 script n) && is_held irqs n))
    ≡ ((n == 3 && (com2 && is_held irqs 3)) || ((m || (l && is_held irqs n)) || (among n script && is_held irqs n)))
marks_at irqs script timer com1 com2 m l n is = elim (cases_Bool (n == 3)) [
  | inl three ↦
      let e : n ≡ 3 = grind (arith, nat_tests) in
      let zero_ : (n == 0) ≡ false = grind (arith, nat_tests, e) in
      let four : (n == 4) ≡ false = grind (arith, nat_tests, e) in
      rw (three, zero_, four) (at_three timer com1 com2 m l (is_held irqs n) (among n script)
      ∙ ap (λ k. (true && (com2 && is_held irqs k)) || ((m || (l && is_held irqs n)) || (among n script && is_held irqs n))) e)
  | inr not_three ↦ elim (cases_Bool (n == 0)) [
    | inl zero_ ↦
        let e : n ≡ 0 = grind (arith, nat_tests) in
        rw not_three (no_cause m l (is_held irqs n) (among n script) (com2 && is_held irqs 3) _ (ap (is_held irqs) e ∙ zero_free irqs is))
    | inr some ↦ elim (cases_Bool (n == 4)) [
      | inl four ↦
          let e : n ≡ 4 = grind (arith, nat_tests) in
          rw not_three (no_cause m l (is_held irqs n) (among n script) (com2 && is_held irqs 3) _ (ap (is_held irqs) e ∙ four_free irqs is))
      | inr not_four ↦ rw (not_three, some, not_four) (at_other timer com1 (com2 && is_held irqs 3) m l (is_held irqs n) (among n script))
    ]
  ]
]

pub marked_after : (latch after : ℕ) (irqs : Lines) (script : List ℕ) (timer com1 com2 : Bool) → IsLines irqs
    → Rises latch after timer com1 com2 script
    → marked_lines after irqs
    ≡ marked_by com2 (let old = marked_lines latch irqs in record old { marked = fold (marked_if_held old) old.marked script })
marked_after latch after irqs script timer com1 com2 is r =
    let old = marked_lines latch irqs in
    ap (λ marks. record irqs { marked = marks }) (same_lines _ _ (λ n.
    has-union irqs.marked (module_lines after irqs) n
    ∙ ap (λ b. has irqs.marked n || b) (module_line after n irqs ∙ ap (λ b. b && is_held irqs n) (r.latched n))
    ∙ marks_at irqs script timer com1 com2 (has irqs.marked n) (has latch n) n is
    ∙ sym (joined_line (com2 && is_held irqs 3) 3 n (fold (marked_if_held old) old.marked script)
    ∙ ap (λ b. (n == 3 && (com2 && is_held irqs 3)) || b) (marked_line old n old.marked script
    ∙ ap (λ b. b || (among n script && is_held irqs n)) (has-union irqs.marked (module_lines latch irqs) n
    ∙ ap (λ b. has irqs.marked n || b) (module_line latch n irqs))))))
