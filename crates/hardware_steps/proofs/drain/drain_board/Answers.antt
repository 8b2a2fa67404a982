use Rattle.std.proofs.Common.{refl, sym, ap, ◌∙◌, ◌++◌, map, subst, ◌+◌}
use Rattle.std.specs.Prelude.{option_map}
use Rattle.line_kinds.specs.declared.kinds.HLine.TheVariants.{Ack}
use Rattle.pic_8259.specs.Controllers.{latch_of}
use Rattle.pic_8259.specs.Boot.{IsBooted}
use Rattle.trace_lines.specs.TickLines.{TickLines}
use Rattle.hardware_steps.specs.HardwareOf.{hardware_of}
use Rattle.hardware_steps.specs.Steps.{last_after}
use Rattle.hardware_steps.proofs.Shots.{same_left, same_shot}
use Rattle.hardware_steps.proofs.Stepped.{by_parts}
use Rattle.hardware_steps.proofs.drain.drain_board.Goals as goal

pub returns-clause-taken : goal.returns-clause-taken
returns-clause-taken c = c.drain-drained.ensures.taken

pub returns-clause-board : goal.returns-clause-board
returns-clause-board c =
    let b = c.args.board.now in
    let is = c.requires.board in
    record {
      booted = subst IsBooted (sym c.drain-drained.ensures.pair) refl;
      pair = c.drain-drained.ensures.kept;
      shot = same_shot b (record b { pair = c.drain-drained.new.pair }) refl refl is.shot;
      sampled = record { com1 = is.sampled.com1; com2 = is.sampled.com2 };
    }

pub returns-clause-hardware : goal.returns-clause-hardware
returns-clause-hardware c = λ now last.
    let b = c.args.board.now in
    let d = c.drain-drained in
    let hs = c.args.lines.now.h in
    by_parts (latch_of d.new.pair) 0 (last_after now (hardware_of now last b)) _ _ _ _ d.ensures.empty
    (ap (λ o. option_map (λ m. now + m) o) (same_left b (record b { pair = d.new.pair }) refl))
    (ap (λ (l : TickLines). l.h) c.push_acks.ensures ∙ ap (λ xs. hs ++ map Ack xs) (c.as_slice.ensures.value ∙ d.ensures.taken))
