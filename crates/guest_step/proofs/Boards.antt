-- What the guest's unit leaves of the board.
use Rattle.std.proofs.Common.{◌≡◌, ℕ, ◌+◌, ◌≤◌, Bool, true, false, not, ◌&&◌, List, map, filter, length, refl, sym, ap, ◌∙◌, arith, subst}
use Rattle.std.proofs.lemmas.List.{length-append, length-map}
use Rattle.std.proofs.lemmas.List.Filters.{length-filter_both}
use Rattle.line_sets.specs.LineSet.{has}
use Rattle.line_kinds.specs.declared.kinds.HLine.{HLine}
use Rattle.line_kinds.specs.declared.kinds.HLine.TheVariants.{Edge}
use Rattle.pic_8259.specs.Controllers.{IsPair, latch_of}
use Rattle.pic_8259.proofs.Latches.{latch_of-risen}
use Rattle.port_map.specs.Serial.{Serial, rose}
use Rattle.port_map.specs.declared.com_port.ComPort.TheVariants.{Com1, Com2}
use Rattle.port_board.specs.Board.{accessed, rises_at_once, rises_of, rises_taken, serial_of, with_serial}
use Rattle.port_board.specs.declared.board.Board.{Board}
use Rattle.trace_lines.specs.TickLines.{TickLines}
use Rattle.hardware_lines.specs.Hardware.{rising_order, with_edges, with_if}
use Rattle.hardware_steps.specs.HardwareOf.{IsBoard, marking_of}
use Rattle.hardware_steps.specs.Steps.{serials_rose, with_edge_lines}
use Rattle.hardware_steps.proofs.Accesses.{none_rises}
use Rattle.guest_step.specs.Leaves.{LeavesBoard, asked_after, com1_of}

-- an access to COM1

accessed_port : (rises : Bool) (port : Serial) (b : Board) → com1_of (rises_at_once rises 4 (with_serial Com1 port b)) ≡ port
accessed_port true port b = refl
accessed_port false port b = refl

pub access_port : (b new : Board) (port : Serial) → new ≡ accessed Com1 port b → com1_of new ≡ port
access_port b new port same = ap com1_of same ∙ accessed_port (rose (com1_of b) port) port b

latched_once : (rises : Bool) (b : Board) → IsPair b.pair → latch_of (rises_at_once rises 4 b).pair ≡ with_if rises 4 (latch_of b.pair)
latched_once true b pair = latch_of-risen b.pair 4 pair
latched_once false b pair = refl

-- line 4 is latched where it rose
pub com1_latched : (b new : Board) (before after : List HLine) → IsPair b.pair → latch_of b.pair ≡ 0 → LeavesBoard b new before after
    → latch_of new.pair ≡ with_if (rose (com1_of b) (com1_of new)) 4 0
com1_latched b new before after pair empty l =
    let rises = rose (com1_of b) (com1_of new) in
    ap (λ (x : Board). latch_of x.pair) l.board ∙ latched_once rises (with_serial Com1 (com1_of new) b) pair ∙ ap (with_if rises 4) empty

com2_once : (rises : Bool) (b : Board) → serial_of Com2 (rises_at_once rises 4 b) ≡ serial_of Com2 b
com2_once true b = refl
com2_once false b = refl

pub com2_kept : (b new : Board) (before after : List HLine) → LeavesBoard b new before after → serial_of Com2 new ≡ serial_of Com2 b
com2_kept b new before after l =
    ap (serial_of Com2) l.board ∙ com2_once (rose (com1_of b) (com1_of new)) (with_serial Com1 (com1_of new) b)

-- a unit that left the board as it was

no_rise : (high : Bool) → (high && not high) ≡ false
no_rise true = refl
no_rise false = refl

stays : (b : Board) (lines : List HLine) → IsBoard b → rises_of b ≡ 0 → LeavesBoard b b lines lines
stays b lines is none = record {
  board = ap (λ (r : ℕ). let x : Board = record b { rises = r } in x) none ∙ ap (λ x. rises_taken (rises_at_once x 4 b)) (sym (no_rise b.com1_high));
  holds = is;
  taken = none;
  edges = λ now last. sym (none_rises b b (marking_of now last b lines) (λ which. refl));
  few = omega arith;
}

pub board_stays : (b new : Board) (before after : List HLine) → IsBoard b → rises_of b ≡ 0 → new ≡ b → after ≡ before → LeavesBoard b new before after
board_stays b new before after is none same lines =
    subst (λ x. LeavesBoard b x before after) (sym same) (subst (λ hs. LeavesBoard b b before hs) (sym lines) (stays b before is none))

pub none_asked : (b : Board) (pending : ℕ) → asked_after (com1_of b) (com1_of b) pending ≡ pending
none_asked b pending = ap (λ (x : Bool). with_if x 4 pending) (no_rise b.com1_high)

-- a unit with an access

few_kept : (p : ℕ → Bool) (xs : List ℕ) → length (filter p xs) ≤ length xs
few_kept p xs = let both = length-filter_both p (λ x. not (p x)) (λ x. refl) xs in omega (arith, both)

few_edges : (set : ℕ) (before after : TickLines) → after ≡ with_edge_lines set before → length after.h ≤ length before.h + 16
few_edges set before after e =
    let some = few_kept (has set) rising_order in
    let long : length after.h ≡ length before.h + length (filter (has set) rising_order) =
    ap (λ (l : TickLines). length l.h) e ∙ length-append before.h (map Edge (filter (has set) rising_order))
    ∙ ap (λ n. length before.h + n) (length-map (filter (has set) rising_order) Edge) in
    omega (arith, some, long)

pub access_leaves : (b c new : Board) (before after : TickLines) → c ≡ accessed Com1 (com1_of c) b → new ≡ rises_taken c → IsBoard new
    → after ≡ with_edge_lines (rises_of c) before
    → ((now last : ℕ) → marking_of now last new after.h ≡ with_edges (serials_rose b new 0) (marking_of now last b before.h))
    → LeavesBoard b new before.h after.h
access_leaves b c new before after access taken is lines edges = record {
  board = taken ∙ ap rises_taken access ∙ ap (λ s. rises_taken (accessed Com1 s b)) (sym (ap com1_of taken));
  holds = is;
  taken = ap rises_of taken;
  edges = edges;
  few = few_edges (rises_of c) before after lines;
}
