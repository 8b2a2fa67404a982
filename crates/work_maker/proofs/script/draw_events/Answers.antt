use Rattle.std.proofs.Common.{◌∙◌, ◌+◌, ◌-◌, [], ◌∷◌, sym, ap, ◌++◌, append_assoc}
use Rattle.work_maker.specs.Script.{events_from, event_of, behind_event}
use Rattle.work_maker.proofs.Steps.{events_step}
use Rattle.work_maker.proofs.script.draw_events.Goals as goal

pub loop-index-preserved : goal.loop-index-preserved
loop-index-preserved c =
    let i = c.loop-index.index in
    let x = c.loop-index.draws.state in
    let step = events_step c.args.count i x c.loop-index-test.true in
    let grouped = append_assoc c.loop-index.events (event_of (i + 1) x ∷ []) (events_from (c.args.count - (i + 1)) (i + 1 + 1) (behind_event x)) in
    rw (c.in_ok-push.ensures.ok, c.event.ensures.drawn, c.event.ensures.next)
    (grouped ∙ (ap (λ rest. c.loop-index.events ++ rest) (sym step) ∙ c.loop-index.invariant))
