-- A rise of line 3, COM2's: it is marked where a module holds it, and nobody's else.
use Rattle.std.proofs.Common.{◌≡◌, ℕ, Bool, true, false, refl, ap, ◌∙◌}
use Rattle.std.specs.Prelude.{if◌then◌else◌}
use Rattle.line_sets.specs.LineSet.{with_line}
use Rattle.pic_8259.specs.Controllers.{IsPair, latch_of}
use Rattle.pic_8259.proofs.Latches.{latch_of-risen}
use Rattle.port_board.specs.Board.{rises_at_once}
use Rattle.port_board.specs.declared.board.Board.{Board}
use Rattle.rt_irqs.specs.Irqs.{Lines, IsLines, is_held}
use Rattle.hard_dispatch.specs.Dispatch.{Module, Nobody, guest_after, lines_after}
use Rattle.hard_dispatch.specs.Sets.{asked_lines, marked_lines}
use Rattle.hard_dispatch.proofs.SetsKept.{rises_ask}
use Rattle.priority_schedule.specs.Unit.{marked_by}

marked_where : (held : Bool) (l : Lines) → lines_after (if held then Module else Nobody) 3 l
    ≡ record l { marked = if held then with_line l.marked 3 else l.marked }
marked_where true l = refl
marked_where false l = refl

asked_where : (held : Bool) (guest : ℕ) → guest_after (if held then Module else Nobody) 3 guest ≡ guest
asked_where true guest = refl
asked_where false guest = refl

pub marks_rise : (rises : Bool) (c : Board) (irqs : Lines) → IsPair c.pair → IsLines irqs
    → marked_lines (latch_of (rises_at_once rises 3 c).pair) irqs ≡ marked_by rises (marked_lines (latch_of c.pair) irqs)
marks_rise true c irqs pair is =
    ap (λ l. marked_lines l irqs) (latch_of-risen c.pair 3 pair)
    ∙ (rises_ask (latch_of c.pair) 3 0 irqs is).marked
    ∙ marked_where (is_held irqs 3) (marked_lines (latch_of c.pair) irqs)
marks_rise false c irqs pair is = refl

pub asks_none : (rises : Bool) (c : Board) (irqs : Lines) (pending : ℕ) → IsPair c.pair → IsLines irqs
    → asked_lines (latch_of (rises_at_once rises 3 c).pair) irqs pending ≡ asked_lines (latch_of c.pair) irqs pending
asks_none true c irqs pending pair is =
    ap (λ l. asked_lines l irqs pending) (latch_of-risen c.pair 3 pair)
    ∙ (rises_ask (latch_of c.pair) 3 pending irqs is).asked
    ∙ asked_where (is_held irqs 3) (asked_lines (latch_of c.pair) irqs pending)
asks_none false c irqs pending pair is = refl
