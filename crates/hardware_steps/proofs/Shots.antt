-- What the timer's chip alone says of the one-shot, and a setting of it.
use Rattle.std.proofs.Common.{◌≡◌, ℕ, ◌+◌, ◌*◌, ◌-◌, ◌<◌, Option, Some, None, List, [], ◌∷◌, ◌++◌, sym, ap, ◌∙◌, subst, inl, inr}
use Rattle.std.specs.Prelude.{option_map}
use Rattle.line_kinds.specs.declared.kinds.HLine.{HLine}
use Rattle.line_kinds.specs.declared.kinds.HLine.TheVariants.{Set}
use Rattle.pic_8259.specs.Controllers.{latch_of}
use Rattle.pit_8254.specs.Counter.{full_count, out_of}
use Rattle.pit_8254.specs.Timer.{Timer}
use Rattle.pit_8254.specs.declared.counter.Mode.TheVariants.{TerminalCount}
use Rattle.port_board.specs.OneShot.{OneShot}
use Rattle.port_board.specs.Left.{ticks_left, left_by, IsShot}
use Rattle.port_board.specs.declared.board.Board.{Board}
use Rattle.rt_timeline.specs.Dues.{ticks_until}
use Rattle.hardware_lines.specs.Hardware.{with_set}
use Rattle.hardware_steps.specs.HardwareOf.{marking_of}
use Rattle.hardware_steps.proofs.Stepped.{by_parts}

pub same_left : (b c : Board) → c.pit ≡ b.pit → ticks_left c ≡ ticks_left b
unfolding ticks_left
same_left b c e = ap (λ (t : Timer). left_by t.counter0.count t.counter0.mode t.counter0.pulses) e

same_one_shot : (b c : Board) (o : Option ℕ) → c.pit ≡ b.pit → c.timer_high ≡ b.timer_high → OneShot b o → OneShot c o
same_one_shot b c None e h (inl r) = inl (record { counts = ap (λ (t : Timer). t.counter0.count) e ∙ r.counts; low = ap (λ (t : Timer). out_of t.counter0) e ∙ r.low })
same_one_shot b c None e h (inr r) = inr (record {
  count = r.count;
  mode = ap (λ (t : Timer). t.counter0.mode) e ∙ r.mode;
  counts = ap (λ (t : Timer). t.counter0.count) e ∙ r.counts;
  over = subst (λ (t : Timer). full_count TerminalCount r.count < t.counter0.pulses) (sym e) r.over;
  high = h ∙ r.high;
})
same_one_shot b c (Some m) e h r = record {
  count = r.count;
  mode = ap (λ (t : Timer). t.counter0.mode) e ∙ r.mode;
  counts = ap (λ (t : Timer). t.counter0.count) e ∙ r.counts;
  left = ap (λ (t : Timer). t.counter0.pulses + 2 * m) e ∙ r.left;
  some = r.some;
}

pub same_shot : (b c : Board) → c.pit ≡ b.pit → c.timer_high ≡ b.timer_high → IsShot b → IsShot c
same_shot b c e h shot = subst (OneShot c) (sym (same_left b c e)) (same_one_shot b c (ticks_left b) e h shot)

-- a setting
pub set_marking : (k due now last : ℕ) (b after : Board) (lines hs : List HLine) → k ≡ ticks_until now due → ticks_left after ≡ Some k → after.pair ≡ b.pair
    → hs ≡ lines ++ Set (2 * k - 1) ∷ [] → marking_of now last after hs ≡ with_set now (Some due) (marking_of now last b lines)
set_marking k due now last b after lines hs e left pair h =
    by_parts (latch_of after.pair) (latch_of b.pair) last _ _ _ _ (ap latch_of pair) (ap (λ o. option_map (λ m. now + m) o) left ∙ ap (λ x. Some (now + x)) e)
    (h ∙ ap (λ x. lines ++ Set (2 * x - 1) ∷ []) e)
