use Rattle.std.proofs.Common.{◌+◌, ◌∙◌, sym, arith, drop, slice_index_or}
use Rattle.std.proofs.lemmas.List.{drop_more}
use Rattle.rt_core.proofs.Events.{taking_first, taking_more, taking_ends, has_room, device_events, came_inside, came_same}
use Rattle.device_script.specs.declared.event.Event.TheVariants.{Line}
use Rattle.rt_core.proofs.coming.take_events.Goals as goal

pub loop-into-init : goal.loop-into-init
loop-into-init c = record { place = c.requires.place; taking = taking_first _ _ _ c.requires.coming c.told-into }

pub returns-clause-events : goal.returns-clause-events
returns-clause-events c = (taking_ends _ _ _ _ _ c.loop-into.invariant.taking (sym c.comes.ensures ∙ c.loop-into-test.false)).copied

pub returns-clause-few : goal.returns-clause-few
returns-clause-few c = (taking_ends _ _ _ _ _ c.loop-into.invariant.taking (sym c.comes.ensures ∙ c.loop-into-test.false)).few

pub returns-clause-later : goal.returns-clause-later
returns-clause-later c = (taking_ends _ _ _ _ _ c.loop-into.invariant.taking (sym c.comes.ensures ∙ c.loop-into-test.false)).later

pub returns-clause-coming : goal.returns-clause-coming
returns-clause-coming c = (taking_ends _ _ _ _ _ c.loop-into.invariant.taking (sym c.comes.ensures ∙ c.loop-into-test.false)).coming

pub returns-clause-are : goal.returns-clause-are
returns-clause-are c =
    rw ((taking_ends _ _ _ _ _ c.loop-into.invariant.taking (sym c.comes.ensures ∙ c.loop-into-test.false)).copied) (device_events c.args.now (drop c.args.next.now c.args.events.now) c.requires.coming.good)

pub loop-into-preserved : goal.loop-into-preserved
loop-into-preserved c =
    let same = sym c.comes.ensures ∙ c.loop-into-test.true in
    let inside = came_inside c.args.now c.loop-into.next c.args.events.now same in
    let split = drop_more c.args.events.now c.loop-into.next (0, Line 0) inside in
    record {
      place = omega (arith, inside);
      taking = taking_more c.args.now (drop c.args.next.now c.args.events.now) (drop c.loop-into.next c.args.events.now) (slice_index_or c.args.events.now c.loop-into.next (0, Line 0)) (drop (c.loop-into.next + 1) c.args.events.now)
          c.loop-into.into c.loop-into.count c.loop-into.invariant.taking split (came_same c.args.now c.loop-into.next c.args.events.now (0, Line 0) same inside);
    }

pub bounds-into-count : goal.bounds-into-count
bounds-into-count c =
    let same = sym c.comes.ensures ∙ c.loop-into-test.true in
    let inside = came_inside c.args.now c.loop-into.next c.args.events.now same in
    let split = drop_more c.args.events.now c.loop-into.next (0, Line 0) inside in
    has_room c.args.now (drop c.args.next.now c.args.events.now) (drop c.loop-into.next c.args.events.now) (slice_index_or c.args.events.now c.loop-into.next (0, Line 0)) (drop (c.loop-into.next + 1) c.args.events.now)
    c.loop-into.into c.loop-into.count c.loop-into.invariant.taking split (came_same c.args.now c.loop-into.next c.args.events.now (0, Line 0) same inside)
