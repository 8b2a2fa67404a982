-- An access to a serial port, and the rises that it leaves.
use Rattle.std.proofs.Common.{◌≡◌, ◌≢◌, ℕ, ◌<◌, ◌+◌, Bool, true, false, not, ◌&&◌, List, [], ◌∷◌, ◌++◌, map, filter, refl, sym, ap, ◌∙◌, arith, subst, append-nil}
use Rattle.std.specs.Prelude.{option_map}
use Rattle.line_sets.specs.LineSet.{has, with_line}
use Rattle.line_kinds.specs.declared.kinds.HLine.{HLine}
use Rattle.line_kinds.specs.declared.kinds.HLine.TheVariants.{Edge}
use Rattle.pic_8259.specs.Controllers.{IsPair, latch_of}
use Rattle.pic_8259.specs.Boot.{IsBooted}
use Rattle.pic_8259.proofs.Latches.{latch_of-risen, booted-risen}
use Rattle.uart_16550.specs.SerialPort.{line_of}
use Rattle.port_map.specs.declared.com_port.ComPort.{ComPort}
use Rattle.port_map.specs.declared.com_port.ComPort.TheVariants.{Com1, Com2}
use Rattle.port_map.specs.Serial.{Serial, sampled_now, rose}
use Rattle.port_board.specs.Board.{IsSampled, accessed, rises_at_once, rises_of, rises_taken, serial_of, with_serial}
use Rattle.port_board.specs.Left.{ticks_left}
use Rattle.port_board.specs.declared.board.Board.{Board}
use Rattle.port_board.proofs.Latched.{risen_pair}
use Rattle.port_board.proofs.Sampled.{accessed_samples}
use Rattle.hardware_lines.specs.Hardware.{Marking, latched, with_edges, with_if, rising_order}
use Rattle.hardware_steps.specs.HardwareOf.{marking_of}
use Rattle.hardware_steps.specs.Laws.{AccessKeepsBoard, NothingRises}
use Rattle.hardware_steps.specs.Steps.{serials_rose}
use Rattle.hardware_steps.proofs.Shots.{same_left, same_shot}
use Rattle.hardware_steps.proofs.Stepped.{by_parts}

-- a rise at once, of a board whose serial port is as the access left it

once_pit : (r : Bool) (n : ℕ) (c : Board) → (rises_at_once r n c).pit ≡ c.pit
once_pit true n c = refl
once_pit false n c = refl

once_high : (r : Bool) (n : ℕ) (c : Board) → (rises_at_once r n c).timer_high ≡ c.timer_high
once_high true n c = refl
once_high false n c = refl

once_rises : (r : Bool) (n : ℕ) (c : Board) → c.rises ≡ 0 → (rises_at_once r n c).rises ≡ with_if r n 0
once_rises true n c e = ap (λ x. with_line x n) e
once_rises false n c e = e

once_serial : (which : ComPort) (r : Bool) (n : ℕ) (c : Board) → serial_of which (rises_at_once r n c) ≡ serial_of which c
once_serial Com1 true n c = refl
once_serial Com2 true n c = refl
once_serial Com1 false n c = refl
once_serial Com2 false n c = refl

once_booted : (r : Bool) (n : ℕ) (c : Board) → IsBooted c.pair → IsBooted (rises_at_once r n c).pair
once_booted true n c h = booted-risen c.pair n h
once_booted false n c h = h

once_paired : (r : Bool) (n : ℕ) (c : Board) → n < 16 → n ≢ 2 → IsPair c.pair → IsPair (rises_at_once r n c).pair
once_paired true n c small ne h = risen_pair n c.pair small ne h
once_paired false n c small ne h = h

only_com1 : filter (has (with_line 0 4)) rising_order ≡ 4 ∷ []
unfolding with_line
only_com1 = refl

only_com2 : filter (has (with_line 0 3)) rising_order ≡ 3 ∷ []
unfolding with_line
only_com2 = refl

once_com1 : (r : Bool) (c : Board) → IsPair c.pair → latch_of (rises_at_once r 4 c).pair ≡ latched (latch_of c.pair) (filter (has (with_if r 4 0)) rising_order)
once_com1 true c h = latch_of-risen c.pair 4 h ∙ ap (latched (latch_of c.pair)) (sym only_com1)
once_com1 false c h = refl

once_com2 : (r : Bool) (c : Board) → IsPair c.pair → latch_of (rises_at_once r 3 c).pair ≡ latched (latch_of c.pair) (filter (has (with_if r 3 0)) rising_order)
once_com2 true c h = latch_of-risen c.pair 3 h ∙ ap (latched (latch_of c.pair)) (sym only_com2)
once_com2 false c h = refl

-- a level that stays doesn't rise
no_rise : (s : Serial) → rose s s ≡ false
no_rise s = elim s.high as (λ h. (h && not h) ≡ false) [ true ↦ refl | false ↦ refl ]

serials_com1 : (s : Serial) (b : Board) → serials_rose b (rises_taken (accessed Com1 s b)) 0 ≡ with_if (rose (serial_of Com1 b) s) 4 0
serials_com1 s b =
    let r = rose (serial_of Com1 b) s in
    let c = with_serial Com1 s b in
    ap (λ x. with_if (rose (serial_of Com1 b) x) 4 (with_if (rose (serial_of Com2 b) (serial_of Com2 (rises_at_once r 4 c))) 3 0)) (once_serial Com1 r 4 c)
    ∙ ap (λ x. with_if r 4 (with_if (rose (serial_of Com2 b) x) 3 0)) (once_serial Com2 r 4 c)
    ∙ ap (λ x. with_if r 4 (with_if x 3 0)) (no_rise (serial_of Com2 b))

serials_com2 : (s : Serial) (b : Board) → serials_rose b (rises_taken (accessed Com2 s b)) 0 ≡ with_if (rose (serial_of Com2 b) s) 3 0
serials_com2 s b =
    let r = rose (serial_of Com2 b) s in
    let c = with_serial Com2 s b in
    ap (λ x. with_if (rose (serial_of Com1 b) x) 4 (with_if (rose (serial_of Com2 b) (serial_of Com2 (rises_at_once r 3 c))) 3 0)) (once_serial Com1 r 3 c)
    ∙ ap (λ x. with_if (rose (serial_of Com1 b) (serial_of Com1 b)) 4 (with_if (rose (serial_of Com2 b) x) 3 0)) (once_serial Com2 r 3 c)
    ∙ ap (λ x. with_if x 4 (with_if r 3 0)) (no_rise (serial_of Com1 b))

-- where both stay nothing rises

without_edges : (s : Marking) → with_edges 0 s ≡ s
without_edges s = ap (λ hs. record s { lines = hs }) (append-nil s.lines)

pub none_rises : NothingRises
none_rises b after s same =
    ap (λ x. with_edges (with_if (rose (serial_of Com1 b) x) 4 (with_if (rose (serial_of Com2 b) (serial_of Com2 after)) 3 0)) s) (same Com1)
    ∙ ap (λ x. with_edges (with_if x 4 (with_if (rose (serial_of Com2 b) (serial_of Com2 after)) 3 0)) s) (no_rise (serial_of Com1 b))
    ∙ ap (λ x. with_edges (with_if (rose (serial_of Com2 b) x) 3 0) s) (same Com2)
    ∙ ap (λ x. with_edges (with_if x 3 0) s) (no_rise (serial_of Com2 b))
    ∙ without_edges s

-- with the edges of what rose
edges_marking : (now last n : ℕ) (r : Bool) (b after : Board) (rises : ℕ) (hs : List HLine) → rises ≡ with_if r n 0 → serials_rose b after 0 ≡ with_if r n 0
    → latch_of after.pair ≡ latched (latch_of b.pair) (filter (has (with_if r n 0)) rising_order) → ticks_left after ≡ ticks_left b
    → marking_of now last after (hs ++ map Edge (filter (has rises) rising_order)) ≡ with_edges (serials_rose b after 0) (marking_of now last b hs)
edges_marking now last n r b after rises hs e f latch left =
    by_parts _ _ last _ _ _ _
    (latch ∙ ap (λ x. latched (latch_of b.pair) (filter (has x) rising_order)) (sym f))
    (ap (λ o. option_map (λ m. now + m) o) left)
    (ap (λ x. hs ++ map Edge (filter (has x) rising_order)) (e ∙ sym f))

pub access_marking : (now last : ℕ) (which : ComPort) (s : Serial) (b : Board) (hs : List HLine) → IsPair b.pair → rises_of b ≡ 0
    → marking_of now last (rises_taken (accessed which s b)) (hs ++ map Edge (filter (has (rises_of (accessed which s b))) rising_order)) ≡ with_edges (serials_rose b (rises_taken (accessed which s b)) 0) (marking_of now last b hs)
access_marking now last Com1 s b hs pair none =
    let r = rose (serial_of Com1 b) s in
    let c = with_serial Com1 s b in
    edges_marking now last 4 r b (rises_taken (accessed Com1 s b)) (rises_of (accessed Com1 s b)) hs (once_rises r 4 c none) (serials_com1 s b) (once_com1 r c pair)
    (same_left b (rises_taken (accessed Com1 s b)) (once_pit r 4 c))
access_marking now last Com2 s b hs pair none =
    let r = rose (serial_of Com2 b) s in
    let c = with_serial Com2 s b in
    edges_marking now last 3 r b (rises_taken (accessed Com2 s b)) (rises_of (accessed Com2 s b)) hs (once_rises r 3 c none) (serials_com2 s b) (once_com2 r c pair)
    (same_left b (rises_taken (accessed Com2 s b)) (once_pit r 3 c))

pub access_marking_at : (now last : ℕ) (which : ComPort) (s : Serial) (b old new : Board) (lines hs : List HLine) → IsPair b.pair → rises_of b ≡ 0
    → old ≡ accessed which s b → new ≡ rises_taken old → hs ≡ lines ++ map Edge (filter (has (rises_of old)) rising_order)
    → marking_of now last new hs ≡ with_edges (serials_rose b new 0) (marking_of now last b lines)
access_marking_at now last which s b old new lines hs pair none e f g =
    let n : new ≡ rises_taken (accessed which s b) = f ∙ ap rises_taken e in
    ap (marking_of now last new) (g ∙ ap (λ o. lines ++ map Edge (filter (has (rises_of o)) rising_order)) e)
    ∙ ap (λ x. marking_of now last x (lines ++ map Edge (filter (has (rises_of (accessed which s b))) rising_order))) n
    ∙ access_marking now last which s b lines pair none
    ∙ ap (λ x. with_edges (serials_rose b x 0) (marking_of now last b lines)) (sym n)

-- the board as each step needs it

at_port : (which : ComPort) (s : Serial) (b : Board) → s.high ≡ line_of s.port → IsSampled b → IsSampled (accessed which s b)
at_port which s b level h =
    let e : sampled_now s.port ≡ s = ap (λ (x : Bool). let y : Serial = record { port = s.port; high = x } in y) (sym level) in
    subst (λ x. IsSampled (accessed which x b)) e (accessed_samples which s.port b h)

pub keeps_board : AccessKeepsBoard
keeps_board Com1 s b level is =
    let r = rose (serial_of Com1 b) s in
    let c = with_serial Com1 s b in
    record {
      booted = once_booted r 4 c is.booted;
      pair = once_paired r 4 c (omega arith) (λ e. absurd (omega (arith, e))) is.pair;
      shot = same_shot b (accessed Com1 s b) (once_pit r 4 c) (once_high r 4 c) is.shot;
      sampled = at_port Com1 s b level is.sampled;
    }
keeps_board Com2 s b level is =
    let r = rose (serial_of Com2 b) s in
    let c = with_serial Com2 s b in
    record {
      booted = once_booted r 3 c is.booted;
      pair = once_paired r 3 c (omega arith) (λ e. absurd (omega (arith, e))) is.pair;
      shot = same_shot b (accessed Com2 s b) (once_pit r 3 c) (once_high r 3 c) is.shot;
      sampled = at_port Com2 s b level is.sampled;
    }
