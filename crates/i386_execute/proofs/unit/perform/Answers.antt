use Rattle.std.proofs.Common.{subst, sym}
use Rattle.memory_model.specs.Laws.{SamePlace}
use Rattle.i386_effects.specs.Effect.{Effect, KeepsUnlessPerformed}
use Rattle.i386_effects.proofs.Kept.{kept_effect, stays_effect}
use Rattle.i386_execute.specs.Changes.{change}
use Rattle.i386_execute.specs.Loads.{loads}
use Rattle.i386_execute.specs.Unit.{moved_on, performed}
use Rattle.i386_execute.proofs.unit.perform.Goals as goal

pub returns-clause-unchanged : goal.returns-clause-unchanged
unfolding performed
returns-clause-unchanged g c =
    let form = c.args.form.now in
    let regs = c.args.regs.now in
    let st = g.B.Bus.state c.args.bus.now in
    let r = moved_on c.args.length regs in
    subst (λ e. KeepsUnlessPerformed regs st e) (sym c.perform_exactly.ensures.effect) (kept_effect g.B.Bus.ports (loads form.op form r) (change form.op form c.args.length r) regs st)

pub returns-clause-place : goal.returns-clause-place
unfolding performed
returns-clause-place g c =
    let form = c.args.form.now in
    let st = g.B.Bus.state c.args.bus.now in
    let r = moved_on c.args.length c.args.regs.now in
    subst (λ (e : Effect _). SamePlace st.side e.bus.side) (sym c.perform_exactly.ensures.effect) (stays_effect g.B.Bus.ports (loads form.op form r) (change form.op form c.args.length r) c.args.regs.now st)
