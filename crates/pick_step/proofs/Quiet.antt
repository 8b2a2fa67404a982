-- Where nothing waits, the guest goes on.
use Rattle.std.proofs.Common.{◌≡◌, ℕ, Bool, true, false, List, [], ◌∷◌, length, refl, sym, ap, ◌∙◌, Some, None, option_map}
use Rattle.line_kinds.specs.declared.kinds.Who.TheVariants.{Guest, Thread as ThreadOn, Init}
use Rattle.rt_fifos.specs.Fifos.{next_marked}
use Rattle.rt_irqs.specs.Irqs.{next_of}
use Rattle.rt_ready.specs.declared.ready.Place.{Place}
use Rattle.rt_ready.specs.Order.{first_place}
use Rattle.executive.specs.declared.executive.Executive.{Executive}
use Rattle.pic_8259.specs.Controllers.{latch_of}
use Rattle.executive.specs.Agreement.{Agrees}
use Rattle.priority_schedule.specs.Pick.{first_of_all}
use Rattle.priority_schedule.specs.State.{Module}
use Rattle.priority_schedule.specs.Tick.{is_on}
use Rattle.schedule_steps.specs.Choice.{first_handler, handler_next, picked_of, thread_next}
use Rattle.trace_lines.specs.TickLines.{TickLines}
use Rattle.machine_state.specs.Inits.{next_number}
use Rattle.machine_state.specs.Parts.{MachineParts}
use Rattle.machine_state.specs.Running.{IsRunning}
use Rattle.pick_step.specs.Picked.{PickStep}
use Rattle.pick_step.specs.Turns.{IsQuiet}
use Rattle.pick_step.proofs.Turning.{step_stays}

no_place : (version : ℕ) (ps : List Place) → length ps ≡ 0 → first_place version ps ≡ None
unfolding first_place
no_place version [] e = refl
no_place version (p ∷ ps) e = absurd cc

no_thread : (all : Executive) → length all.ready.places ≡ 0 → thread_next all ≡ None
no_thread all e = ap (option_map (λ (p : Place). ThreadOn p.id)) (no_place all.ready.version all.ready.places e)

no_handler : (draining : Bool) (all : Executive) → next_of all.irqs ≡ None → next_marked all.fifos ≡ None → handler_next draining all ≡ None
no_handler false all line fifo = refl
no_handler true all line fifo = ap (λ l. first_handler l (next_marked all.fifos)) line ∙ ap (first_handler None) fifo

quiet_pick : (draining : Bool) (modules : List Module) (all : Executive) → IsQuiet modules all
    → picked_of draining (Some Guest) (next_number modules) all ≡ Guest
quiet_pick draining modules all q =
    ap (λ n. first_of_all (option_map Init n ∷ handler_next draining all ∷ thread_next all ∷ [])) q.inits
    ∙ ap (λ h. first_of_all (h ∷ thread_next all ∷ [])) (no_handler draining all q.line q.fifo)
    ∙ ap (λ t. first_of_all (t ∷ [])) (no_thread all q.threads)

pub quiet_step : (draining : Bool) (m : MachineParts) (lines : TickLines) → Agrees m.all → (draining ≡ true → latch_of m.board.pair ≡ 0)
    → IsRunning m → m.processor.on ≡ Some Guest → IsQuiet m.modules m.all → PickStep draining m m lines lines
quiet_step draining m lines a drained run on q =
    step_stays draining m lines Guest a drained run
    (sym (ap (λ o. picked_of draining o (next_number m.modules) m.all) on ∙ quiet_pick draining m.modules m.all q))
    (ap (is_on Guest) on)
