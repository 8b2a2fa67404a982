-- A device step of the board is the hardware's.
use Rattle.std.proofs.Common.{◌≡◌, ℕ, zero, suc, ◌+◌, ◌<◌, ◌^◌, ◌&&◌, ◌||◌, ◌==◌, true, false, List, ◌++◌, map, filter, Option, Some, None, refl, sym, ap, ◌∙◌, arith, subst}
use Rattle.std.specs.Prelude.{option_map, if◌then◌else◌}
use Rattle.std.proofs.lemmas.Bool.Decides.{nat_tests}
use Rattle.line_sets.specs.LineSet.{has}
use Rattle.line_sets.proofs.LineSetLemmas.{same_lines}
use Rattle.pic_8259.specs.Controllers.{latch_of}
use Rattle.device_script.specs.Events.{lines_of}
use Rattle.device_script.specs.declared.event.Event.{Event}
use Rattle.line_kinds.specs.declared.kinds.HLine.{HLine}
use Rattle.line_kinds.specs.declared.kinds.HLine.TheVariants.{Edge}
use Rattle.port_map.specs.declared.com_port.ComPort.TheVariants.{Com1, Com2}
use Rattle.port_map.specs.Serial.{rose}
use Rattle.port_board.specs.Board.{serial_of}
use Rattle.port_board.specs.OneShot.{OneShot, rises_next, one_less}
use Rattle.port_board.specs.Left.{IsShot, ticks_left}
use Rattle.port_board.specs.Steps.{line_rises}
use Rattle.port_board.specs.declared.board.Board.{Board}
use Rattle.hardware_lines.specs.Hardware.{Marking, latched, rising_order, rises_at}
use Rattle.hardware_steps.specs.HardwareOf.{rise_of, marking_of}
use Rattle.hardware_steps.specs.Steps.{board_edges, board_stepped}
use Rattle.hardware_steps.proofs.EdgeSets.{among, raised_is, edges_line, latched_set}

-- the ticks that are left, as the tick of the rise
next_rises : (k : ℕ) (o : Option ℕ) → (o ≡ Some 0 → ⊥) → rises_next o ≡ rises_at (suc k) (option_map (λ m. k + m) o)
next_rises k None some = refl
next_rises k (Some zero) some = absurd (some refl)
next_rises k (Some (suc zero)) some = grind (arith, nat_tests)
next_rises k (Some (suc (suc m))) some = grind (arith, nat_tests)

less_rises : (k : ℕ) (o : Option ℕ) → (o ≡ Some 0 → ⊥) → option_map (λ m. suc k + m) (one_less o) ≡ (if rises_at (suc k) (option_map (λ m. k + m) o) then None else option_map (λ m. k + m) o)
less_rises k None some = refl
less_rises k (Some zero) some = absurd (some refl)
less_rises k (Some (suc zero)) some = let e : (k + 1 == suc k) ≡ true = grind (arith, nat_tests) in rw e refl
less_rises k (Some (suc (suc m))) some =
    let e : (k + suc (suc m) == suc k) ≡ false = grind (arith, nat_tests) in
    rw e (ap Some (omega arith))

no_zero_left : (b : Board) → IsShot b → ticks_left b ≡ Some 0 → ⊥
no_zero_left b shot e = let r = subst (OneShot b) e shot in let some = r.some in absurd (omega (arith, some))

same_edges : (k edges : ℕ) (events : List Event) (b after : Board) → IsShot b → ((n : ℕ) → has edges n ≡ line_rises events b after n) → edges ≡ board_edges k events b after
same_edges k edges events b after shot rising = same_lines _ _ (λ n.
    rising n
    ∙ ap (λ x. (n == 0 && rises_next (ticks_left b)) || ((n == 4 && rose (serial_of Com1 b) (serial_of Com1 after)) || ((n == 3 && rose (serial_of Com2 b) (serial_of Com2 after)) || x))) (raised_is n events)
    ∙ ap (λ t. (n == 0 && t) || ((n == 4 && rose (serial_of Com1 b) (serial_of Com1 after)) || ((n == 3 && rose (serial_of Com2 b) (serial_of Com2 after)) || among n (lines_of events)))) (next_rises k (ticks_left b) (no_zero_left b shot))
    ∙ sym (edges_line (rises_at (suc k) (rise_of k b)) _ _ (lines_of events) n))

-- the three parts of a marking that a step changes
pub by_parts : (latch latch' last : ℕ) (rise rise' : Option ℕ) (lines lines' : List HLine) → latch ≡ latch' → rise ≡ rise' → lines ≡ lines'
    → (let m : Marking = record { hardware = record { latch = latch; rise = rise; last = last }; lines = lines } in m) ≡ record { hardware = record { latch = latch'; rise = rise'; last = last }; lines = lines' }
by_parts latch latch' last rise rise' lines lines' e f g = cc

pub stepped : (k last edges : ℕ) (events : List Event) (b after : Board) (lines : List HLine) → edges < 2 ^ 16 → IsShot b
    → ((n : ℕ) → has edges n ≡ line_rises events b after n) → ((n : ℕ) → has (latch_of after.pair) n ≡ (has (latch_of b.pair) n || has edges n))
    → ticks_left after ≡ one_less (ticks_left b)
    → marking_of (suc k) last after (lines ++ map Edge (filter (has edges) rising_order)) ≡ board_stepped k last events b after lines
stepped k last edges events b after lines small shot rising latches left =
    let e = same_edges k edges events b after shot rising in
    by_parts _ _ last _ _ _ _
    (latched_set (latch_of b.pair) edges (latch_of after.pair) small latches ∙ ap (λ x. latched (latch_of b.pair) (filter (has x) rising_order)) e)
    (ap (λ o. option_map (λ m. suc k + m) o) left ∙ less_rises k (ticks_left b) (no_zero_left b shot))
    (ap (λ x. lines ++ map Edge (filter (has x) rising_order)) e)

pub stepped_at : (now k last edges : ℕ) (events : List Event) (b after : Board) (lines hs : List HLine) → now ≡ suc k
    → hs ≡ lines ++ map Edge (filter (has edges) rising_order)
    → marking_of (suc k) last after (lines ++ map Edge (filter (has edges) rising_order)) ≡ board_stepped k last events b after lines
    → marking_of now last after hs ≡ board_stepped k last events b after lines
stepped_at now k last edges events b after lines hs e f g = ap (λ n. marking_of n last after hs) e ∙ ap (marking_of (suc k) last after) f ∙ g
