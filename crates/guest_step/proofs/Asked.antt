-- What is asked of the guest, and what is marked for modules, before the guest's unit and after it: nothing is latched, or line 4 alone.
use Rattle.std.proofs.Common.{◌≡◌, ℕ, ◌==◌, Bool, true, false, not, ◌&&◌, ◌||◌, inl, inr, ap, ◌∙◌, arith, Option}
use Rattle.std.specs.Prelude.{if◌then◌else◌}
use Rattle.std.proofs.lemmas.Bool.{cases_Bool}
use Rattle.line_sets.specs.LineSet.{has, with_line}
use Rattle.line_sets.proofs.LineSetLemmas.{same_lines, has-zero, has-union}
use Rattle.rt_irqs.specs.Irqs.{Lines, IsLines, is_held}
use Rattle.hard_dispatch.specs.Dispatch.{Module, Guest as GuestOwns, guest_lines, owner_of, guest_after, lines_after}
use Rattle.hard_dispatch.specs.Sets.{asked_lines, marked_lines, RiseAsks}
use Rattle.hard_dispatch.proofs.SetsKept.{guest_line, rises_ask}
use Rattle.hardware_lines.specs.Hardware.{with_if}
use Rattle.schedule_steps.specs.Dues.{has_come}
use Rattle.machine_state.specs.States.{asked_of}

or_none : (a : Bool) → (a || false) ≡ a
or_none a = grind arith

-- nothing is latched

asked_none : (pending : ℕ) (irqs : Lines) → asked_lines 0 irqs pending ≡ pending
asked_none pending irqs = same_lines _ _ (λ n.
    has-union pending (guest_lines 0 irqs) n
    ∙ ap (λ b. has pending n || b) (guest_line 0 n irqs ∙ ap (λ b. (b && not (is_held irqs n)) && not (n == 0 || n == 3)) (has-zero n))
    ∙ or_none (has pending n))

-- line 4 is the guest's, since no module may hold it

com1_free : (irqs : Lines) → IsLines irqs → is_held irqs 4 ≡ false
com1_free irqs is = elim (cases_Bool (is_held irqs 4)) [ inl held ↦ absurd (let e : false ≡ true = is.holdable 4 held in cc) | inr free ↦ free ]

com1_owner : (irqs : Lines) → IsLines irqs → owner_of irqs 4 ≡ GuestOwns
com1_owner irqs is = ap (λ (held : Bool). if held then Module else GuestOwns) (com1_free irqs is)

asked_latched : (rises : Bool) (latch pending : ℕ) (irqs : Lines) → IsLines irqs → latch ≡ with_if rises 4 0
    → asked_lines latch irqs pending ≡ (if rises then with_line pending 4 else pending)
asked_latched true latch pending irqs is e =
    let asks : RiseAsks 0 4 pending irqs = rises_ask 0 4 pending irqs is in
    ap (λ x. asked_lines x irqs pending) e ∙ asks.asked
    ∙ ap (λ owner. guest_after owner 4 (asked_lines 0 irqs pending)) (com1_owner irqs is) ∙ ap (λ x. with_line x 4) (asked_none pending irqs)
asked_latched false latch pending irqs is e = ap (λ x. asked_lines x irqs pending) e ∙ asked_none pending irqs

pub marked_latched : (rises : Bool) (latch : ℕ) (irqs : Lines) → IsLines irqs → latch ≡ with_if rises 4 0
    → marked_lines latch irqs ≡ marked_lines 0 irqs
marked_latched true latch irqs is e =
    let asks : RiseAsks 0 4 0 irqs = rises_ask 0 4 0 irqs is in
    ap (λ x. marked_lines x irqs) e ∙ asks.marked ∙ ap (λ owner. lines_after owner 4 (marked_lines 0 irqs)) (com1_owner irqs is)
marked_latched false latch irqs is e = ap (λ x. marked_lines x irqs) e

-- and no due of the guest has come

calm : (t latch pending : ℕ) (irqs : Lines) (due : Option ℕ) → has_come t due ≡ false
    → asked_of t latch irqs pending due ≡ asked_lines latch irqs pending
calm t latch pending irqs due none =
    ap (λ (come : Bool). if come then with_line (asked_lines latch irqs pending) 0 else asked_lines latch irqs pending) none

pub asked_before : (t latch pending : ℕ) (irqs : Lines) (due : Option ℕ) → latch ≡ 0 → has_come t due ≡ false
    → asked_of t latch irqs pending due ≡ pending
asked_before t latch pending irqs due empty none =
    calm t latch pending irqs due none ∙ ap (λ x. asked_lines x irqs pending) empty ∙ asked_none pending irqs

pub asked_behind : (rises : Bool) (t latch pending : ℕ) (irqs : Lines) (due : Option ℕ) → IsLines irqs → latch ≡ with_if rises 4 0
    → has_come t due ≡ false → asked_of t latch irqs pending due ≡ (if rises then with_line pending 4 else pending)
asked_behind rises t latch pending irqs due is e none = calm t latch pending irqs due none ∙ asked_latched rises latch pending irqs is e
