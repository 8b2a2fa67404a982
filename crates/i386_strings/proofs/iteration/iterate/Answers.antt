use Rattle.std.proofs.Common.{subst, sym}
use Rattle.memory_model.specs.Laws.{SamePlace}
use Rattle.i386_strings.specs.Iteration.{IterationEffect}
use Rattle.i386_strings.proofs.Kept.{KeepsOutside, kept_iteration, stays_iteration}
use Rattle.i386_strings.proofs.iteration.iterate.Goals as goal

pub returns-clause-outside : goal.returns-clause-outside
returns-clause-outside g c =
    let regs = c.args.regs.now in
    let st = g.B.Bus.state c.args.bus.now in
    subst (λ e. KeepsOutside regs st e) (sym c.iterate_exactly.ensures.effect) (kept_iteration c.args.form.now regs st)

pub returns-clause-place : goal.returns-clause-place
returns-clause-place g c =
    let st = g.B.Bus.state c.args.bus.now in
    subst (λ (e : IterationEffect _). SamePlace st.side e.bus.side) (sym c.iterate_exactly.ensures.effect) (stays_iteration c.args.form.now c.args.regs.now st)
