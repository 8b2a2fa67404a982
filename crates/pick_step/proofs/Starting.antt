-- What starts, as the schedule has it.
use Rattle.std.proofs.Common.{◌≡◌, ℕ, refl, sym, ap, ◌∙◌, subst, List, Option, Some}
use Rattle.std.specs.Prelude.{false, unwrap_or}
use Rattle.memory_model.specs.Side.{Side, word_stored}
use Rattle.cpu_state.specs.declared.registers.Registers.{Registers}
use Rattle.cpu_state.specs.Registers.{starting}
use Rattle.line_kinds.specs.declared.kinds.Who.{Who}
use Rattle.line_kinds.specs.declared.kinds.Who.TheVariants.{Irq}
use Rattle.flat_memory.specs.Parts.{Parts}
use Rattle.rt_irqs.specs.Irqs.{Lines, entry_of}
use Rattle.rt_fifos.specs.Fifos.{Fifo}
use Rattle.hard_dispatch.specs.Sets.{marked_lines}
use Rattle.activity_contexts.specs.Contexts.{activity_registers}
use Rattle.priority_schedule.specs.State.{Module, RealTime}
use Rattle.priority_schedule.specs.Tick.{begins, stack_top, started, unmarked}
use Rattle.schedule_steps.proofs.Picking.{none_latched}
use Rattle.machine_state.specs.Parts.{real_side}
use Rattle.pick_step.specs.Turns.{NoneLatched, with_start}

-- where no line is latched, the mark that is cleared is that of the lines themselves
mark_cleared : (line latch : ℕ) (irqs after : Lines) → latch ≡ 0 → after ≡ unmarked line irqs
    → unmarked line (marked_lines latch irqs) ≡ marked_lines latch after
mark_cleared line latch irqs after l e = rw (l, e) (ap (unmarked line) (none_latched irqs) ∙ sym (none_latched (unmarked line irqs)))

-- the registers and the side of an activity that starts at an entry with a number
record IsBegun (entry number : ℕ) (after : Registers) (old new : Side) : Type 0 where
  registers : after ≡ starting entry number (stack_top old) false
  side : new ≡ word_stored old (stack_top old) 4 old.first

begun : (who : Who) (latch entry number : ℕ) (r after : Registers) (irqs : Lines) (fifos : List (Option Fifo)) (old new : Parts)
    (modules : List Module) (m : RealTime) → activity_registers (Some who) after ≡ after → IsBegun entry number after (real_side old) (real_side new)
    → begins entry number (with_start who latch r irqs fifos old modules m) ≡ with_start who latch after irqs fifos new modules m
begun who latch entry number r after irqs fifos old new modules m own b =
    ap (λ (x : Registers). record (with_start who latch r irqs fifos old modules m) {
      side = word_stored (real_side old) (stack_top (real_side old)) 4 (real_side old).first;
      registers = x;
    }) (sym b.registers ∙ sym own)
    ∙ ap (λ (x : Side). record (with_start who latch after irqs fifos new modules m) { side = x }) (sym b.side)

-- the handler of a line, whose mark is cleared
pub line_starts : (who : Who) (latch line entry : ℕ) (r after : Registers) (irqs irqs_after : Lines) (fifos : List (Option Fifo))
    (old new : Parts) (modules : List Module) (m : RealTime)
    → who ≡ Irq line → entry_of irqs line ≡ Some entry → irqs_after ≡ unmarked line irqs
    → after ≡ starting entry line (stack_top (real_side old)) false
    → real_side new ≡ word_stored (real_side old) (stack_top (real_side old)) 4 (real_side old).first → NoneLatched who latch
    → started who (with_start who latch r irqs fifos old modules m) ≡ with_start who latch after irqs_after fifos new modules m
line_starts who latch line entry r after irqs irqs_after fifos old new modules m is e mark registers side =
    let before = with_start (Irq line) latch r irqs fifos old modules m in
    subst (λ w. NoneLatched w latch
    → started w (with_start w latch r irqs fifos old modules m) ≡ with_start w latch after irqs_after fifos new modules m) (sym is) (λ l.
    ap (λ x. begins (unwrap_or x 0) line (record before { irqs = unmarked line (marked_lines latch irqs) })) e
    ∙ ap (λ x. begins entry line (record before { irqs = x })) (mark_cleared line latch irqs irqs_after l mark)
    ∙ begun (Irq line) latch entry line r after irqs_after fifos old new modules m refl (record { registers = registers; side = side }))
