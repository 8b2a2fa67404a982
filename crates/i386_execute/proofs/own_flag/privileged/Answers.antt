use Rattle.std.proofs.Common.{subst, sym}
use Rattle.memory_model.specs.Laws.{SamePlace}
use Rattle.i386_effects.specs.Effect.{Effect, KeepsUnlessPerformed}
use Rattle.i386_effects.proofs.Kept.{kept_effect, stays_effect}
use Rattle.i386_execute.specs.OwnFlag.{flag_change, flag_loads, flag_unit, IsNextOrOutside}
use Rattle.i386_execute.specs.Unit.{moved_on}
use Rattle.i386_execute.proofs.OnFlag.{answered}
use Rattle.i386_execute.proofs.own_flag.privileged.Goals as goal

pub returns-clause-answers : goal.returns-clause-answers
returns-clause-answers g c =
    let st = g.B.Bus.state c.args.bus.now in
    subst (λ (e : Effect _). IsNextOrOutside e.answer) (sym c.perform_on_flag.ensures.effect) (answered g.B.Bus.ports c.args.kind c.args.length c.args.regs.now st c.requires.kind)

pub returns-clause-unchanged : goal.returns-clause-unchanged
unfolding flag_unit
returns-clause-unchanged g c =
    let regs = c.args.regs.now in
    let st = g.B.Bus.state c.args.bus.now in
    let r = moved_on c.args.length regs in
    subst (λ e. KeepsUnlessPerformed regs st e) (sym c.perform_on_flag.ensures.effect) (kept_effect g.B.Bus.ports (flag_loads c.args.kind r) (flag_change c.args.kind c.args.length r) regs st)

pub returns-clause-place : goal.returns-clause-place
unfolding flag_unit
returns-clause-place g c =
    let st = g.B.Bus.state c.args.bus.now in
    let r = moved_on c.args.length c.args.regs.now in
    subst (λ (e : Effect _). SamePlace st.side e.bus.side) (sym c.perform_on_flag.ensures.effect) (stays_effect g.B.Bus.ports (flag_loads c.args.kind r) (flag_change c.args.kind c.args.length r) c.args.regs.now st)
