use Rattle.std.proofs.Common.{◌≡◌, ◌∙◌, sym, true, false}
use Rattle.priority_schedule.specs.Tick.{is_on}
use Rattle.pick_step.proofs.Turning.{step_stays, step_turns}
use Rattle.pick_step.proofs.pick.choose_and_turn.Goals as goal

pub returns-then-not-is_on-clause-step : goal.returns-then-not-is_on-clause-step
returns-then-not-is_on-clause-step c =
    let off : is_on c.choose-who.result c.args.processor.now.on ≡ false = sym c.is_on.ensures ∙ c.if-not-is_on.true in
    λ m drained run.
    step_turns c.args.draining
    (record m { processor = c.args.processor.now; all = c.args.all.now; memory = c.args.memory.now; modules = c.args.inits.now })
    (record m { processor = c.turn.new.processor; all = c.turn.new.all; memory = c.turn.new.memory; modules = c.turn.new.inits })
    c.args.lines.now c.push_r.new.self c.choose-who.result c.requires.agrees drained c.choose-who.ensures.picked off
    (c.choose-who.ensures.turn off) (λ none. c.turn.ensures.turned m none run) c.push_r.ensures

pub returns-else-not-is_on-clause-step : goal.returns-else-not-is_on-clause-step
returns-else-not-is_on-clause-step c =
    let on : is_on c.choose-who.result c.args.processor.now.on ≡ true = sym c.is_on.ensures ∙ c.if-not-is_on.false in
    λ m drained run.
    step_stays c.args.draining
    (record m { processor = c.args.processor.now; all = c.args.all.now; memory = c.args.memory.now; modules = c.args.inits.now })
    c.args.lines.now c.choose-who.result c.requires.agrees drained run c.choose-who.ensures.picked on
