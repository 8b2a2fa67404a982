-- What is asked of the guest after a device step: what was, line 4 where COM1 rose, the script's lines that no module holds, and line 0
-- in a tick of the guest's timer.
use Rattle.std.proofs.Common.{◌≡◌, ℕ, Bool, true, false, not, ◌&&◌, ◌||◌, ◌==◌, List, refl, sym, ap, ◌∙◌, arith, inl, inr}
use Rattle.std.specs.Prelude.{if◌then◌else◌}
use Rattle.std.proofs.lemmas.Bool.{cases_Bool}
use Rattle.std.proofs.lemmas.Bool.Decides.{nat_tests}
use Rattle.line_sets.specs.LineSet.{has, union, with_line}
use Rattle.line_sets.proofs.LineSetLemmas.{same_lines, has-union}
use Rattle.rt_irqs.specs.Irqs.{Lines, IsLines, is_held}
use Rattle.hard_dispatch.specs.Dispatch.{guest_lines, held_lines}
use Rattle.hard_dispatch.specs.Sets.{asked_lines}
use Rattle.hard_dispatch.proofs.Owners.{has-held_lines}
use Rattle.hard_dispatch.proofs.SetsKept.{guest_line}
use Rattle.run_lines.specs.Says.{lines_asked}
use Rattle.hardware_steps.proofs.EdgeSets.{among}
use Rattle.device_step.proofs.RaisedLines.{asked_line, joined_line}

-- which lines rose in a device step: line 0 with the one-shot, 4 and 3 with the serial ports, and the script's
abbrev pub Causes : Bool → Bool → Bool → List ℕ → ℕ → Bool
Causes timer com1 com2 script n = (n == 0 && timer) || ((n == 4 && com1) || ((n == 3 && com2) || among n script))

-- a latch after it, for a script that hasn't the lines 0 and 3
pub record Rises (latch after : ℕ) (timer com1 com2 : Bool) (script : List ℕ) : Type 0 where
  pub latched : (n : ℕ) → has after n ≡ (has latch n || Causes timer com1 com2 script n)
  pub no_timer : among 0 script ≡ false
  pub no_com2 : among 3 script ≡ false

-- the timer's line and the guest's serial port's are held by no module
pub not_held : (irqs : Lines) (n : ℕ) (b : Bool) → IsLines irqs → is_held irqs n ≡ b → (is_held irqs n ≡ true → false ≡ true) → is_held irqs n ≡ false
not_held irqs n true is e never = absurd (let f = never e in cc)
not_held irqs n false is e never = e

pub zero_free : (irqs : Lines) → IsLines irqs → is_held irqs 0 ≡ false
zero_free irqs is = not_held irqs 0 (is_held irqs 0) is refl (λ e. is.holdable 0 e)

pub four_free : (irqs : Lines) → IsLines irqs → is_held irqs 4 ≡ false
four_free irqs is = not_held irqs 4 (is_held irqs 4) is refl (λ e. is.holdable 4 e)

-- line by line

at_zero : (come tick com1 com2 timer p l h s : Bool) → s ≡ false
    → ((true && (come || tick))
    || (p || (((l || ((true && timer) || ((false && com1) || ((false && com2) || s)))) && not h) && not (true || false))))
    ≡ (((false && com1) || ((true && come) || (p || ((l && not h) && not (true || false))))) || ((true && tick) || (s && not h)))
at_zero come tick com1 com2 timer p l h s none = rw none (grind arith)

at_three : (come tick com1 com2 timer p l h s : Bool) → s ≡ false
    → ((false && (come || tick))
    || (p || (((l || ((false && timer) || ((false && com1) || ((true && com2) || s)))) && not h) && not (false || true))))
    ≡ (((false && com1) || ((false && come) || (p || ((l && not h) && not (false || true))))) || ((false && tick) || (s && not h)))
at_three come tick com1 com2 timer p l h s none = rw none (grind arith)

at_four : (come tick com1 com2 timer p l h s : Bool) → h ≡ false
    → ((false && (come || tick))
    || (p || (((l || ((false && timer) || ((true && com1) || ((false && com2) || s)))) && not h) && not (false || false))))
    ≡ (((true && com1) || ((false && come) || (p || ((l && not h) && not (false || false))))) || ((false && tick) || (s && not h)))
at_four come tick true com2 timer true l h s free = refl
at_four come tick true com2 timer false l h s free = rw free (grind arith)
at_four come tick false com2 timer p l h s free = rw free (grind arith)

at_other : (come tick com1 com2 timer p l h s : Bool)
    → ((false && (come || tick))
    || (p || (((l || ((false && timer) || ((false && com1) || ((false && com2) || s)))) && not h) && not (false || false))))
    ≡ (((false && com1) || ((false && come) || (p || ((l && not h) && not (false || false))))) || ((false && tick) || (s && not h)))
at_other come tick com1 com2 timer p l true s = grind arith
at_other come tick com1 com2 timer p l false s = grind arith

asked_at : (irqs : Lines) (script : List ℕ) (come tick com1 com2 timer p l : Bool) (n : ℕ) → IsLines irqs
    → among 0 script ≡ false → among 3 script ≡ false
    → ((n == 0 && (come || tick)) || (p || (((l || Causes timer com1 com2 script n) && not (is_held irqs n)) && not (n == 0 || n == 3))))
    ≡ (((n == 4 && com1) || ((n == 0 && come) || (p || ((l && not (is_held irqs n)) && not (n == 0 || n == 3)))))
    || ((n == 0 && tick) || (among n script && not (is_held irqs n))))
asked_at irqs script come tick com1 com2 timer p l n is zero_not three_not = elim (cases_Bool (n == 0)) [
  | inl zero_ ↦
      let e : n ≡ 0 = grind (arith, nat_tests) in
      let three : (n == 3) ≡ false = grind (arith, nat_tests, e) in
      let four : (n == 4) ≡ false = grind (arith, nat_tests, e) in
      rw (zero_, three, four) (at_zero come tick com1 com2 timer p l (is_held irqs n) (among n script) (ap (λ k. among k script) e ∙ zero_not))
  | inr some ↦ elim (cases_Bool (n == 3)) [
    | inl three ↦
        let e : n ≡ 3 = grind (arith, nat_tests) in
        let four : (n == 4) ≡ false = grind (arith, nat_tests, e) in
        rw (some, three, four) (at_three come tick com1 com2 timer p l (is_held irqs n) (among n script) (ap (λ k. among k script) e ∙ three_not))
    | inr not_three ↦ elim (cases_Bool (n == 4)) [
      | inl four ↦
          let e : n ≡ 4 = grind (arith, nat_tests) in
          rw (some, not_three, four)
          (at_four come tick com1 com2 timer p l (is_held irqs n) (among n script) (ap (is_held irqs) e ∙ four_free irqs is))
      | inr not_four ↦ rw (some, not_three, not_four) (at_other come tick com1 com2 timer p l (is_held irqs n) (among n script))
    ]
  ]
]

pub asked_after : (latch after pending : ℕ) (irqs : Lines) (script : List ℕ) (come tick come_after com1 com2 timer : Bool) → IsLines irqs
    → Rises latch after timer com1 com2 script → come_after ≡ (come || tick)
    → (if come_after then with_line (asked_lines after irqs pending) 0 else asked_lines after irqs pending)
    ≡ union (let old = if come then with_line (asked_lines latch irqs pending) 0 else asked_lines latch irqs pending in
    if com1 then with_line old 4 else old)
    (if tick then with_line (lines_asked (held_lines irqs) script) 0 else lines_asked (held_lines irqs) script)
asked_after latch after pending irqs script come tick come_after com1 com2 timer is r comes = same_lines _ _ (λ n.
    let old = if come then with_line (asked_lines latch irqs pending) 0 else asked_lines latch irqs pending in
    let more = if tick then with_line (lines_asked (held_lines irqs) script) 0 else lines_asked (held_lines irqs) script in
    joined_line come_after 0 n (asked_lines after irqs pending)
    ∙ ap (λ b. (n == 0 && b) || has (asked_lines after irqs pending) n) comes
    ∙ ap (λ b. (n == 0 && (come || tick)) || b) (has-union pending (guest_lines after irqs) n
    ∙ ap (λ b. has pending n || b) (guest_line after n irqs ∙ ap (λ b. (b && not (is_held irqs n)) && not (n == 0 || n == 3)) (r.latched n)))
    ∙ asked_at irqs script come tick com1 com2 timer (has pending n) (has latch n) n is r.no_timer r.no_com2
    ∙ sym (has-union (if com1 then with_line old 4 else old) more n
    ∙ ap (λ b. b || has more n) (joined_line com1 4 n old ∙ ap (λ b. (n == 4 && com1) || b) (joined_line come 0 n (asked_lines latch irqs pending)
    ∙ ap (λ b. (n == 0 && come) || b) (has-union pending (guest_lines latch irqs) n ∙ ap (λ b. has pending n || b) (guest_line latch n irqs))))
    ∙ ap (λ b. ((n == 4 && com1) || ((n == 0 && come) || (has pending n || ((has latch n && not (is_held irqs n)) && not (n == 0 || n == 3))))) || b)
    (joined_line tick 0 n (lines_asked (held_lines irqs) script) ∙ ap (λ b. (n == 0 && tick) || b) (asked_line (held_lines irqs) n script
    ∙ ap (λ b. among n script && not b) (has-held_lines irqs n)))))
