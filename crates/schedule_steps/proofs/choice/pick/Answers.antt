use Rattle.std.proofs.Common.{◌∙◌, ap, sym, option_map}
use Rattle.line_kinds.specs.declared.kinds.Who.TheVariants.{Init}
use Rattle.schedule_steps.proofs.Picking.{fourth, none_of_them, pick_is, third}
use Rattle.schedule_steps.proofs.choice.pick.Goals as goal

pub returns-in-Some-next_handler-clause-picked : goal.returns-in-Some-next_handler-clause-picked
returns-in-Some-next_handler-clause-picked c = λ latch m b.
    pick_is c.args.draining c.args.on c.args.module_next latch c.args.all.now m c.requires b
    ∙ third _ _ _ _ c.in-Some-next_handler.handler (sym c.running.ensures ∙ c.in_default.is) (ap (option_map Init) c.in_default-module_next.is) (sym c.next_handler.ensures.handler ∙ c.in-Some-next_handler.is)

pub returns-in-Some-next_thread-clause-picked : goal.returns-in-Some-next_thread-clause-picked
returns-in-Some-next_thread-clause-picked c = λ latch m b.
    pick_is c.args.draining c.args.on c.args.module_next latch c.args.all.now m c.requires b
    ∙ fourth _ _ _ _ c.in-Some-next_thread.thread (sym c.running.ensures ∙ c.in_default.is) (ap (option_map Init) c.in_default-module_next.is)
    (sym c.next_handler.ensures.handler ∙ c.in_default-next_handler.is) (sym c.next_thread.ensures.thread ∙ c.in-Some-next_thread.is)

pub returns-in-None-clause-picked : goal.returns-in-None-clause-picked
returns-in-None-clause-picked c = λ latch m b.
    pick_is c.args.draining c.args.on c.args.module_next latch c.args.all.now m c.requires b
    ∙ none_of_them _ _ _ _ (sym c.running.ensures ∙ c.in_default.is) (ap (option_map Init) c.in_default-module_next.is)
    (sym c.next_handler.ensures.handler ∙ c.in_default-next_handler.is) (sym c.next_thread.ensures.thread ∙ c.in-None.is)
