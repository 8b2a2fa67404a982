-- Each line goes to its one owner.
use Rattle.std.proofs.Common.{◌≡◌, ℕ, zero, suc, ◌+◌, ◌*◌, ◌/◌, ◌%◌, ◌≢◌, Bool, true, false, not, ◌&&◌, ◌||◌, if◌then◌else◌, eqb, ◌==◌, refl, sym, ap, ◌∙◌, subst, arith, ⊎_elim, Option, Some, None, is_some, List, [], ◌∷◌, get_or}
use Rattle.std.specs.Int.{bit_at}
use Rattle.std.proofs.lemmas.Nat.Bits.{bit_at_lowest, bit_at-suc}
use Rattle.std.proofs.lemmas.Bool.Decides.{nat_tests, eqb_tells}
use Rattle.line_sets.specs.LineSet.{has, union, minus, with_line}
use Rattle.line_sets.proofs.LineSetLemmas.{same_lines, has-zero, has_above, has-union, has-common, has-minus, has-with_same, has-with_other}
use Rattle.rt_irqs.specs.Irqs.{Lines, IsLines, is_held}
use Rattle.hard_dispatch.specs.Dispatch.{Owner, Timer, Module, Nobody, Guest, owner_of, is_module, is_guest, guest_after, lines_after, set_of, held_lines, module_lines, guest_lines, marked_with, GoesToOwner}

has-set_of : (es : List (Option ℕ)) (n : ℕ) → has (set_of es) n ≡ is_some (get_or es n None)
has-set_of [] n = has-zero n
has-set_of (None ∷ es) zero =
    let low : (0 + 2 * set_of es) % 2 ≡ 0 = omega arith in
    ap (λ b. b == 1) (bit_at_lowest (0 + 2 * set_of es) ∙ low)
has-set_of (Some e ∷ es) zero =
    let low : (1 + 2 * set_of es) % 2 ≡ 1 = omega arith in
    ap (λ b. b == 1) (bit_at_lowest (1 + 2 * set_of es) ∙ low)
has-set_of (None ∷ es) (suc n) =
    let half : (0 + 2 * set_of es) / 2 ≡ set_of es = omega arith in
    ap (λ b. b == 1) (bit_at-suc (0 + 2 * set_of es) n ∙ ap (λ x. bit_at x n) half) ∙ has-set_of es n
has-set_of (Some e ∷ es) (suc n) =
    let half : (1 + 2 * set_of es) / 2 ≡ set_of es = omega arith in
    ap (λ b. b == 1) (bit_at-suc (1 + 2 * set_of es) n ∙ ap (λ x. bit_at x n) half) ∙ has-set_of es n

pub has-held_lines : (l : Lines) (n : ℕ) → has (held_lines l) n ≡ is_held l n
unfolding held_lines
has-held_lines l n = has-set_of l.entries n

-- the timer's line and the real-time side's serial port
pub has-nine : (n : ℕ) → has 9 n ≡ (n == 0 || n == 3)
has-nine zero = refl
has-nine (suc zero) = refl
has-nine (suc (suc zero)) = refl
has-nine (suc (suc (suc zero))) = refl
has-nine (suc (suc (suc (suc n)))) = has_above 9 4 (suc (suc (suc (suc n)))) (omega arith) (omega arith) ∙ grind (arith, nat_tests)

not_held_zero : (l : Lines) (b : Bool) → IsLines l → is_held l 0 ≡ b → b ≡ false
not_held_zero l true ok h = absurd (let may = ok.holdable 0 h in cc)
not_held_zero l false ok h = refl

module_of : (n : ℕ) (h : Bool) → (n ≡ 0 → h ≡ false) → h ≡ is_module (if n == 0 then Timer else if h then Module else if n == 3 then Nobody else Guest)
module_of n h z = grind (arith, nat_tests)

guest_of : (n : ℕ) (h : Bool) → (not h && not (n == 0 || n == 3)) ≡ is_guest (if n == 0 then Timer else if h then Module else if n == 3 then Nobody else Guest)
guest_of n h = grind (arith, nat_tests)

or_true : (b : Bool) → (b || true) ≡ true
or_true true = refl
or_true false = refl

and_assoc : (a b c : Bool) → ((a && b) && c) ≡ (a && (b && c))
and_assoc a b c = grind arith

pub goes : (lines : ℕ) (l : Lines) (n : ℕ) → IsLines l → GoesToOwner lines l n
goes lines l n ok = record {
  to_module = has-common lines (held_lines l) n ∙ ap (λ b. has lines n && b) (has-held_lines l n ∙ module_of n (is_held l n) (λ e. ap (is_held l) e ∙ not_held_zero l (is_held l 0) ok refl));
  to_guest =
      has-minus (minus lines (held_lines l)) 0x0009 n
      ∙ (ap (λ b. b && not (has 0x0009 n)) (has-minus lines (held_lines l) n)
      ∙ (ap (λ b. (has lines n && not b) && not (has 0x0009 n)) (has-held_lines l n)
      ∙ (ap (λ b. (has lines n && not (is_held l n)) && not b) (has-nine n)
      ∙ (and_assoc (has lines n) (not (is_held l n)) (not (n == 0 || n == 3))
      ∙ ap (λ b. has lines n && b) (guest_of n (is_held l n))))));
}

-- the owner depends on which lines are held, and not on marks
pub same_owner : (l k : Lines) (n : ℕ) → l.entries ≡ k.entries → owner_of l n ≡ owner_of k n
same_owner l k n e = ap (λ (es : List (Option ℕ)). let x : Lines = record { entries = es; marked = 0; soft = 0 } in owner_of x n) e

and_false : (b : Bool) → (b && false) ≡ false
and_false true = refl
and_false false = refl

guest_other : (o : Owner) (guest n k : ℕ) → k ≢ n → has (guest_after o n guest) k ≡ has guest k
guest_other Timer guest n k ne = refl
guest_other Module guest n k ne = refl
guest_other Nobody guest n k ne = refl
guest_other Guest guest n k ne = has-with_other guest n k ne

guest_same : (o : Owner) (taken guest n : ℕ) → has guest n ≡ (has taken n && is_guest o) → has (guest_after o n guest) n ≡ (has (with_line taken n) n && is_guest o)
guest_same Timer taken guest n h = h ∙ (and_false (has taken n) ∙ sym (and_false (has (with_line taken n) n)))
guest_same Module taken guest n h = h ∙ (and_false (has taken n) ∙ sym (and_false (has (with_line taken n) n)))
guest_same Nobody taken guest n h = h ∙ (and_false (has taken n) ∙ sym (and_false (has (with_line taken n) n)))
guest_same Guest taken guest n h = has-with_same guest n ∙ ap (λ b. b && true) (sym (has-with_same taken n))

-- one line more was acknowledged and given to its owner: what the guest has
pub guest_step : (l : Lines) (taken guest n k : ℕ) → has guest k ≡ (has taken k && is_guest (owner_of l k))
    → has (guest_after (owner_of l n) n guest) k ≡ (has (with_line taken n) k && is_guest (owner_of l k))
guest_step l taken guest n k h = ⊎_elim
    (λ (s : (eqb k n ≡ true) × (k ≡ n)). subst (λ x. has (guest_after (owner_of l n) n guest) x ≡ (has (with_line taken n) x && is_guest (owner_of l x))) (sym s.1)
    (guest_same (owner_of l n) taken guest n (subst (λ x. has guest x ≡ (has taken x && is_guest (owner_of l x))) s.1 h)))
    (λ (s : (eqb k n ≡ false) × (k ≢ n)). guest_other (owner_of l n) guest n k s.1 ∙ (h ∙ ap (λ b. b && is_guest (owner_of l k)) (sym (has-with_other taken n k s.1))))
    (eqb_tells k n)

-- and which lines are marked
marks_other : (o : Owner) (l : Lines) (n k : ℕ) → k ≢ n → has (lines_after o n l).marked k ≡ has l.marked k
marks_other Timer l n k ne = refl
marks_other Module l n k ne = has-with_other l.marked n k ne
marks_other Nobody l n k ne = refl
marks_other Guest l n k ne = refl

marks_same : (o : Owner) (l : Lines) (old taken n : ℕ) → has l.marked n ≡ (has old n || (has taken n && is_module o)) → has (lines_after o n l).marked n ≡ (has old n || (has (with_line taken n) n && is_module o))
marks_same Timer l old taken n h = h ∙ ap (λ b. has old n || b) (and_false (has taken n) ∙ sym (and_false (has (with_line taken n) n)))
marks_same Module l old taken n h = has-with_same l.marked n ∙ (sym (or_true (has old n)) ∙ ap (λ b. has old n || (b && true)) (sym (has-with_same taken n)))
marks_same Nobody l old taken n h = h ∙ ap (λ b. has old n || b) (and_false (has taken n) ∙ sym (and_false (has (with_line taken n) n)))
marks_same Guest l old taken n h = h ∙ ap (λ b. has old n || b) (and_false (has taken n) ∙ sym (and_false (has (with_line taken n) n)))

pub marks_step : (l now : Lines) (taken n k : ℕ) → has now.marked k ≡ (has l.marked k || (has taken k && is_module (owner_of l k)))
    → has (lines_after (owner_of l n) n now).marked k ≡ (has l.marked k || (has (with_line taken n) k && is_module (owner_of l k)))
marks_step l now taken n k h = ⊎_elim
    (λ (s : (eqb k n ≡ true) × (k ≡ n)). subst (λ x. has (lines_after (owner_of l n) n now).marked x ≡ (has l.marked x || (has (with_line taken n) x && is_module (owner_of l x)))) (sym s.1)
    (marks_same (owner_of l n) now l.marked taken n (subst (λ x. has now.marked x ≡ (has l.marked x || (has taken x && is_module (owner_of l x)))) s.1 h)))
    (λ (s : (eqb k n ≡ false) × (k ≢ n)). marks_other (owner_of l n) now n k s.1 ∙ (h ∙ ap (λ b. has l.marked k || (b && is_module (owner_of l k))) (sym (has-with_other taken n k s.1))))
    (eqb_tells k n)

pub entries-after : (o : Owner) (n : ℕ) (l : Lines) → (lines_after o n l).entries ≡ l.entries
entries-after Timer n l = refl
entries-after Module n l = refl
entries-after Nobody n l = refl
entries-after Guest n l = refl

pub soft-after : (o : Owner) (n : ℕ) (l : Lines) → (lines_after o n l).soft ≡ l.soft
soft-after Timer n l = refl
soft-after Module n l = refl
soft-after Nobody n l = refl
soft-after Guest n l = refl

-- in the end the guest has its lines, and the modules' are marked
pub guest_whole : (l : Lines) (lines guest : ℕ) → IsLines l → ((k : ℕ) → has guest k ≡ (has lines k && is_guest (owner_of l k))) → guest ≡ guest_lines lines l
guest_whole l lines guest ok h = same_lines guest (guest_lines lines l) (λ k. h k ∙ sym (goes lines l k ok).to_guest)

same_fields : (es fs : List (Option ℕ)) (m n s t : ℕ) → es ≡ fs → m ≡ n → s ≡ t → let a : Lines = record { entries = es; marked = m; soft = s } in let b : Lines = record { entries = fs; marked = n; soft = t } in a ≡ b
same_fields es fs m n s t e f g = cc

pub marks_whole : (l now : Lines) (lines : ℕ) → IsLines l → now.entries ≡ l.entries → now.soft ≡ l.soft → ((k : ℕ) → has now.marked k ≡ (has l.marked k || (has lines k && is_module (owner_of l k)))) → now ≡ marked_with (module_lines lines l) l
marks_whole l now lines ok e s h =
    let marks : now.marked ≡ union l.marked (module_lines lines l) = same_lines now.marked (union l.marked (module_lines lines l)) (λ k. h k ∙ sym (has-union l.marked (module_lines lines l) k ∙ ap (λ b. has l.marked k || b) (goes lines l k ok).to_module)) in
    same_fields now.entries l.entries now.marked (union l.marked (module_lines lines l)) now.soft l.soft e marks s
