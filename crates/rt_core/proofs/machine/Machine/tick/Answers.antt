use Rattle.std.proofs.Common.{◌≡◌, ◌≤◌, ◌+◌, ◌∙◌, suc, Some, refl, ap, arith, drop, take, add-one}
use Rattle.rt_timeline.specs.Dues.{Dues}
use Rattle.run_lines.specs.Ticks.{at_tick}
use Rattle.trace_lines.specs.TickLines.{TickLines}
use Rattle.schedule_steps.specs.Dues.{has_come}
use Rattle.machine_state.specs.Parts.{MachineParts}
use Rattle.machine_state.specs.Standing.{IsStanding}
use Rattle.rt_core.specs.View.{seen}
use Rattle.rt_core.proofs.Ticked.{AreSteps, guest_drains, none_due, opened_by, tick_step, timely_after}
use Rattle.rt_core.proofs.TickParts.{few_guest, nexts_fit, planned_after, timed_bare, timed_real, timed_running}
use Rattle.rt_core.proofs.machine.Machine.tick.Goals as goal

pub take_events-count-requires-clause-coming : goal.take_events-count-requires-clause-coming
take_events-count-requires-clause-coming c = rw c.as_slice.ensures c.self.invariant.coming

pub take_events-count-requires-clause-place : goal.take_events-count-requires-clause-place
take_events-count-requires-clause-place c = rw c.as_slice.ensures c.self.invariant.place

pub drain_where-requires-clause-calm : goal.drain_where-requires-clause-calm
drain_where-requires-clause-calm c =
    let s = c.self.inside in
    let t = s.ticks + 1 in
    let e : t ≡ suc s.ticks = add-one s.ticks in
    let below = rw (← c.self.view_is) at c.requires in
    let few : t ≤ 1000000000 = omega (arith, below) in
    let standing = c.self.invariant.standing in
    let d = c.devices.ensures.step (seen s) e few standing.running in
    λ unlatched. none_due t s.ticks _ (seen s) (record (seen s) { board = c.devices.new.board; ticks = t }) c.devices.new.lines e standing.running standing.timely d refl unlatched

pub pick_next-who-requires-clause-ready : goal.pick_next-who-requires-clause-ready
pick_next-who-requires-clause-ready c =
    let s = c.self.inside in
    let t = s.ticks + 1 in
    let e : t ≡ suc s.ticks = add-one s.ticks in
    let below = rw (← c.self.view_is) at c.requires in
    let few : t ≤ 1000000000 = omega (arith, below) in
    let standing = c.self.invariant.standing in
    let d = c.devices.ensures.step (seen s) e few standing.running in
    let m1 : MachineParts = record (seen s) { board = c.devices.new.board; ticks = t } in
    let r = c.drain_where.ensures.steps m1 refl d.running in
    r.running.ready

pub pick_next-who-requires-clause-agrees : goal.pick_next-who-requires-clause-agrees
pick_next-who-requires-clause-agrees c =
    let s = c.self.inside in
    let t = s.ticks + 1 in
    let e : t ≡ suc s.ticks = add-one s.ticks in
    let below = rw (← c.self.view_is) at c.requires in
    let few : t ≤ 1000000000 = omega (arith, below) in
    let standing = c.self.invariant.standing in
    let d = c.devices.ensures.step (seen s) e few standing.running in
    let m1 : MachineParts = record (seen s) { board = c.devices.new.board; ticks = t } in
    let r = c.drain_where.ensures.steps m1 refl d.running in
    r.running.agrees

pub unit-change-requires-clause-ready : goal.unit-change-requires-clause-ready
unit-change-requires-clause-ready c =
    let s = c.self.inside in
    let t = s.ticks + 1 in
    let e : t ≡ suc s.ticks = add-one s.ticks in
    let below = rw (← c.self.view_is) at c.requires in
    let few : t ≤ 1000000000 = omega (arith, below) in
    let standing = c.self.invariant.standing in
    let d = c.devices.ensures.step (seen s) e few standing.running in
    let m1 : MachineParts = record (seen s) { board = c.devices.new.board; ticks = t } in
    let r = c.drain_where.ensures.steps m1 refl d.running in
    let m2 : MachineParts = record m1 { board = c.drain_where.new.board; all = c.drain_where.new.all; guest = c.drain_where.new.guest; last = c.drain_where.new.last } in
    let p = c.pick_next-who.ensures.step m2 (λ h. r.emptied h) r.running in
    p.running.ready

pub unit-change-requires-clause-sizes : goal.unit-change-requires-clause-sizes
unit-change-requires-clause-sizes c =
    let s = c.self.inside in
    let t = s.ticks + 1 in
    let e : t ≡ suc s.ticks = add-one s.ticks in
    let below = rw (← c.self.view_is) at c.requires in
    let few : t ≤ 1000000000 = omega (arith, below) in
    let standing = c.self.invariant.standing in
    let d = c.devices.ensures.step (seen s) e few standing.running in
    let m1 : MachineParts = record (seen s) { board = c.devices.new.board; ticks = t } in
    let r = c.drain_where.ensures.steps m1 refl d.running in
    let m2 : MachineParts = record m1 { board = c.drain_where.new.board; all = c.drain_where.new.all; guest = c.drain_where.new.guest; last = c.drain_where.new.last } in
    let p = c.pick_next-who.ensures.step m2 (λ h. r.emptied h) r.running in
    p.running.sizes

pub unit-change-requires-clause-table : goal.unit-change-requires-clause-table
unit-change-requires-clause-table c =
    let s = c.self.inside in
    let t = s.ticks + 1 in
    let e : t ≡ suc s.ticks = add-one s.ticks in
    let below = rw (← c.self.view_is) at c.requires in
    let few : t ≤ 1000000000 = omega (arith, below) in
    let standing = c.self.invariant.standing in
    let d = c.devices.ensures.step (seen s) e few standing.running in
    let m1 : MachineParts = record (seen s) { board = c.devices.new.board; ticks = t } in
    let r = c.drain_where.ensures.steps m1 refl d.running in
    let m2 : MachineParts = record m1 { board = c.drain_where.new.board; all = c.drain_where.new.all; guest = c.drain_where.new.guest; last = c.drain_where.new.last } in
    let p = c.pick_next-who.ensures.step m2 (λ h. r.emptied h) r.running in
    p.running.table

pub unit-change-requires-clause-board : goal.unit-change-requires-clause-board
unit-change-requires-clause-board c =
    let s = c.self.inside in
    let t = s.ticks + 1 in
    let e : t ≡ suc s.ticks = add-one s.ticks in
    let below = rw (← c.self.view_is) at c.requires in
    let few : t ≤ 1000000000 = omega (arith, below) in
    let standing = c.self.invariant.standing in
    let d = c.devices.ensures.step (seen s) e few standing.running in
    let m1 : MachineParts = record (seen s) { board = c.devices.new.board; ticks = t } in
    let r = c.drain_where.ensures.steps m1 refl d.running in
    let m2 : MachineParts = record m1 { board = c.drain_where.new.board; all = c.drain_where.new.all; guest = c.drain_where.new.guest; last = c.drain_where.new.last } in
    let p = c.pick_next-who.ensures.step m2 (λ h. r.emptied h) r.running in
    p.running.board

pub unit-change-requires-clause-taken : goal.unit-change-requires-clause-taken
unit-change-requires-clause-taken c =
    let s = c.self.inside in
    let t = s.ticks + 1 in
    let e : t ≡ suc s.ticks = add-one s.ticks in
    let below = rw (← c.self.view_is) at c.requires in
    let few : t ≤ 1000000000 = omega (arith, below) in
    let standing = c.self.invariant.standing in
    let d = c.devices.ensures.step (seen s) e few standing.running in
    let m1 : MachineParts = record (seen s) { board = c.devices.new.board; ticks = t } in
    let r = c.drain_where.ensures.steps m1 refl d.running in
    let m2 : MachineParts = record m1 { board = c.drain_where.new.board; all = c.drain_where.new.all; guest = c.drain_where.new.guest; last = c.drain_where.new.last } in
    let p = c.pick_next-who.ensures.step m2 (λ h. r.emptied h) r.running in
    p.running.taken

pub unit-change-requires-clause-agrees : goal.unit-change-requires-clause-agrees
unit-change-requires-clause-agrees c =
    let s = c.self.inside in
    let t = s.ticks + 1 in
    let e : t ≡ suc s.ticks = add-one s.ticks in
    let below = rw (← c.self.view_is) at c.requires in
    let few : t ≤ 1000000000 = omega (arith, below) in
    let standing = c.self.invariant.standing in
    let d = c.devices.ensures.step (seen s) e few standing.running in
    let m1 : MachineParts = record (seen s) { board = c.devices.new.board; ticks = t } in
    let r = c.drain_where.ensures.steps m1 refl d.running in
    let m2 : MachineParts = record m1 { board = c.drain_where.new.board; all = c.drain_where.new.all; guest = c.drain_where.new.guest; last = c.drain_where.new.last } in
    let p = c.pick_next-who.ensures.step m2 (λ h. r.emptied h) r.running in
    p.running.agrees

pub unit-change-requires-clause-nexts : goal.unit-change-requires-clause-nexts
unit-change-requires-clause-nexts c =
    let s = c.self.inside in
    let t = s.ticks + 1 in
    let e : t ≡ suc s.ticks = add-one s.ticks in
    let below = rw (← c.self.view_is) at c.requires in
    let few : t ≤ 1000000000 = omega (arith, below) in
    let standing = c.self.invariant.standing in
    let d = c.devices.ensures.step (seen s) e few standing.running in
    let m1 : MachineParts = record (seen s) { board = c.devices.new.board; ticks = t } in
    let r = c.drain_where.ensures.steps m1 refl d.running in
    let m2 : MachineParts = record m1 { board = c.drain_where.new.board; all = c.drain_where.new.all; guest = c.drain_where.new.guest; last = c.drain_where.new.last } in
    let p = c.pick_next-who.ensures.step m2 (λ h. r.emptied h) r.running in
    let m3 : MachineParts = record m2 { processor = c.pick_next-who.new.processor; all = c.pick_next-who.new.all; memory = c.pick_next-who.new.memory; modules = c.pick_next-who.new.inits } in
    let draining = c.drains-draining.ensures (seen s) standing.running.ready in
    let events = take c.take_events-count.result c.take_events-count.new.into in
    let low : s.ticks ≤ 1000000000 = omega (arith, below) in
    nexts_fit s.ticks t events (seen s) m3 c.pick_next-who.new.lines low standing.planned
    (opened_by t events c.drains-draining.result (seen s) m1 m2 m3 c.devices.new.lines c.drain_where.new.lines c.pick_next-who.new.lines draining d r p)

pub unit-change-requires-clause-emptied : goal.unit-change-requires-clause-emptied
unit-change-requires-clause-emptied c =
    let s = c.self.inside in
    let t = s.ticks + 1 in
    let e : t ≡ suc s.ticks = add-one s.ticks in
    let below = rw (← c.self.view_is) at c.requires in
    let few : t ≤ 1000000000 = omega (arith, below) in
    let standing = c.self.invariant.standing in
    let d = c.devices.ensures.step (seen s) e few standing.running in
    let m1 : MachineParts = record (seen s) { board = c.devices.new.board; ticks = t } in
    let r = c.drain_where.ensures.steps m1 refl d.running in
    let m2 : MachineParts = record m1 { board = c.drain_where.new.board; all = c.drain_where.new.all; guest = c.drain_where.new.guest; last = c.drain_where.new.last } in
    let p = c.pick_next-who.ensures.step m2 (λ h. r.emptied h) r.running in
    let m3 : MachineParts = record m2 { processor = c.pick_next-who.new.processor; all = c.pick_next-who.new.all; memory = c.pick_next-who.new.memory; modules = c.pick_next-who.new.inits } in
    let draining = c.drains-draining.ensures (seen s) standing.running.ready in
    let events = take c.take_events-count.result c.take_events-count.new.into in
    λ is. r.emptied (guest_drains t events c.drains-draining.result (seen s) m1 m2 m3 c.devices.new.lines c.drain_where.new.lines c.pick_next-who.new.lines standing.running draining d r p (c.pick_next-who.ensures.on ∙ ap Some is))

pub unit-change-requires-clause-calm : goal.unit-change-requires-clause-calm
unit-change-requires-clause-calm c =
    let s = c.self.inside in
    let t = s.ticks + 1 in
    let e : t ≡ suc s.ticks = add-one s.ticks in
    let below = rw (← c.self.view_is) at c.requires in
    let few : t ≤ 1000000000 = omega (arith, below) in
    let standing = c.self.invariant.standing in
    let d = c.devices.ensures.step (seen s) e few standing.running in
    let m1 : MachineParts = record (seen s) { board = c.devices.new.board; ticks = t } in
    let r = c.drain_where.ensures.steps m1 refl d.running in
    let m2 : MachineParts = record m1 { board = c.drain_where.new.board; all = c.drain_where.new.all; guest = c.drain_where.new.guest; last = c.drain_where.new.last } in
    let p = c.pick_next-who.ensures.step m2 (λ h. r.emptied h) r.running in
    let m3 : MachineParts = record m2 { processor = c.pick_next-who.new.processor; all = c.pick_next-who.new.all; memory = c.pick_next-who.new.memory; modules = c.pick_next-who.new.inits } in
    let draining = c.drains-draining.ensures (seen s) standing.running.ready in
    let events = take c.take_events-count.result c.take_events-count.new.into in
    λ is. ap (λ (dues : Dues). has_come t dues.guest) p.dues ∙ r.calm (guest_drains t events c.drains-draining.result (seen s) m1 m2 m3 c.devices.new.lines c.drain_where.new.lines c.pick_next-who.new.lines standing.running draining d r p (c.pick_next-who.ensures.on ∙ ap Some is))

pub unit-change-requires-clause-room : goal.unit-change-requires-clause-room
unit-change-requires-clause-room c =
    let s = c.self.inside in
    let t = s.ticks + 1 in
    let e : t ≡ suc s.ticks = add-one s.ticks in
    let below = rw (← c.self.view_is) at c.requires in
    let few : t ≤ 1000000000 = omega (arith, below) in
    let standing = c.self.invariant.standing in
    let d = c.devices.ensures.step (seen s) e few standing.running in
    let m1 : MachineParts = record (seen s) { board = c.devices.new.board; ticks = t } in
    let r = c.drain_where.ensures.steps m1 refl d.running in
    let m2 : MachineParts = record m1 { board = c.drain_where.new.board; all = c.drain_where.new.all; guest = c.drain_where.new.guest; last = c.drain_where.new.last } in
    let p = c.pick_next-who.ensures.step m2 (λ h. r.emptied h) r.running in
    let m3 : MachineParts = record m2 { processor = c.pick_next-who.new.processor; all = c.pick_next-who.new.all; memory = c.pick_next-who.new.memory; modules = c.pick_next-who.new.inits } in
    let events = take c.take_events-count.result c.take_events-count.new.into in
    let sent = few_guest t events c.drains-draining.result (seen s) m1 m2 m3 c.devices.new.lines c.drain_where.new.lines c.pick_next-who.new.lines d r p in
    let hardware = ap (λ (l : TickLines). l.h) p.lines in (
      omega (arith, c.devices.ensures.few.0, c.drain_where.ensures.few.0, c.pick_next-who.ensures.few),
      (sent, rw hardware (omega (arith, c.devices.ensures.few.1, c.drain_where.ensures.few.1))),
    )

pub set_timer-requires-clause-board : goal.set_timer-requires-clause-board
set_timer-requires-clause-board c =
    let s = c.self.inside in
    let t = s.ticks + 1 in
    let e : t ≡ suc s.ticks = add-one s.ticks in
    let below = rw (← c.self.view_is) at c.requires in
    let few : t ≤ 1000000000 = omega (arith, below) in
    let standing = c.self.invariant.standing in
    let d = c.devices.ensures.step (seen s) e few standing.running in
    let m1 : MachineParts = record (seen s) { board = c.devices.new.board; ticks = t } in
    let r = c.drain_where.ensures.steps m1 refl d.running in
    let m2 : MachineParts = record m1 { board = c.drain_where.new.board; all = c.drain_where.new.all; guest = c.drain_where.new.guest; last = c.drain_where.new.last } in
    let p = c.pick_next-who.ensures.step m2 (λ h. r.emptied h) r.running in
    let m3 : MachineParts = record m2 { processor = c.pick_next-who.new.processor; all = c.pick_next-who.new.all; memory = c.pick_next-who.new.memory; modules = c.pick_next-who.new.inits } in
    let u = c.unit-change.ensures.steps m3 refl p.running in
    u.running.board

pub set_timer-requires-clause-room : goal.set_timer-requires-clause-room
set_timer-requires-clause-room c =
    let s = c.self.inside in
    let t = s.ticks + 1 in
    let e : t ≡ suc s.ticks = add-one s.ticks in
    let below = rw (← c.self.view_is) at c.requires in
    let few : t ≤ 1000000000 = omega (arith, below) in
    let standing = c.self.invariant.standing in
    let d = c.devices.ensures.step (seen s) e few standing.running in
    let m1 : MachineParts = record (seen s) { board = c.devices.new.board; ticks = t } in
    let r = c.drain_where.ensures.steps m1 refl d.running in
    let m2 : MachineParts = record m1 { board = c.drain_where.new.board; all = c.drain_where.new.all; guest = c.drain_where.new.guest; last = c.drain_where.new.last } in
    let p = c.pick_next-who.ensures.step m2 (λ h. r.emptied h) r.running in
    let hardware = ap (λ (l : TickLines). l.h) p.lines in
    let before = rw hardware at c.unit-change.ensures.few in
    omega (arith, c.devices.ensures.few.1, c.drain_where.ensures.few.1, before)

pub returns-clause-ticked : goal.returns-clause-ticked
returns-clause-ticked c =
    let s = c.self.inside in
    let t = s.ticks + 1 in
    let e : t ≡ suc s.ticks = add-one s.ticks in
    let below = rw (← c.self.view_is) at c.requires in
    let few : t ≤ 1000000000 = omega (arith, below) in
    let standing = c.self.invariant.standing in
    let d = c.devices.ensures.step (seen s) e few standing.running in
    let m1 : MachineParts = record (seen s) { board = c.devices.new.board; ticks = t } in
    let r = c.drain_where.ensures.steps m1 refl d.running in
    let m2 : MachineParts = record m1 { board = c.drain_where.new.board; all = c.drain_where.new.all; guest = c.drain_where.new.guest; last = c.drain_where.new.last } in
    let p = c.pick_next-who.ensures.step m2 (λ h. r.emptied h) r.running in
    let m3 : MachineParts = record m2 { processor = c.pick_next-who.new.processor; all = c.pick_next-who.new.all; memory = c.pick_next-who.new.memory; modules = c.pick_next-who.new.inits } in
    let u = c.unit-change.ensures.steps m3 refl p.running in
    let m4 : MachineParts = record m3 { memory = c.unit-change.new.memory; processor = c.unit-change.new.processor; board = c.unit-change.new.board; all = c.unit-change.new.all; guest = c.unit-change.new.guest } in
    let draining = c.drains-draining.ensures (seen s) standing.running.ready in
    let events = take c.take_events-count.result c.take_events-count.new.into in
    let coming = drop c.take_events-count.new.next s.script.events in
    let m5 : MachineParts = record m4 { board = c.set_timer.new.board; coming = coming } in
    let steps : AreSteps t events c.drains-draining.result c.pick_next-who.result (seen s) m1 m2 m3 m4 m5 c.devices.new.lines c.drain_where.new.lines c.pick_next-who.new.lines c.unit-change.new.lines c.set_timer.new.lines c.unit-change.result = record {
      draining = draining;
      first = d;
      second = r;
      third = p;
      on = c.pick_next-who.ensures.on;
      third_hardware = refl;
      fourth = u;
      fifth = c.set_timer.ensures.hardware m3 m4 refl p.running u.running u.dues refl;
      bare_stays = timed_bare m4 c.set_timer.new.board coming c.set_timer.ensures.rest;
      real_stays = timed_real m4 c.set_timer.new.board coming c.set_timer.ensures.rest;
      r_stays = ap (λ (l : TickLines). l.r) c.set_timer.ensures.lines;
      g_stays = ap (λ (l : TickLines). l.g) c.set_timer.ensures.lines;
    } in
    let same : events ≡ at_tick t (seen s).coming = c.take_events-count.ensures.events ∙ ap (λ es. at_tick t (drop s.next es)) c.as_slice.ensures in
    let ticked = tick_step _ _ _ _ _ _ _ _ _ _ _ _ _ _ _ _ steps same in
    rw (← c.self.view_is) ticked

pub returns-clause-stands : goal.returns-clause-stands
returns-clause-stands c =
    let s = c.self.inside in
    let t = s.ticks + 1 in
    let e : t ≡ suc s.ticks = add-one s.ticks in
    let below = rw (← c.self.view_is) at c.requires in
    let few : t ≤ 1000000000 = omega (arith, below) in
    let standing = c.self.invariant.standing in
    let d = c.devices.ensures.step (seen s) e few standing.running in
    let m1 : MachineParts = record (seen s) { board = c.devices.new.board; ticks = t } in
    let r = c.drain_where.ensures.steps m1 refl d.running in
    let m2 : MachineParts = record m1 { board = c.drain_where.new.board; all = c.drain_where.new.all; guest = c.drain_where.new.guest; last = c.drain_where.new.last } in
    let p = c.pick_next-who.ensures.step m2 (λ h. r.emptied h) r.running in
    let m3 : MachineParts = record m2 { processor = c.pick_next-who.new.processor; all = c.pick_next-who.new.all; memory = c.pick_next-who.new.memory; modules = c.pick_next-who.new.inits } in
    let u = c.unit-change.ensures.steps m3 refl p.running in
    let m4 : MachineParts = record m3 { memory = c.unit-change.new.memory; processor = c.unit-change.new.processor; board = c.unit-change.new.board; all = c.unit-change.new.all; guest = c.unit-change.new.guest } in
    let draining = c.drains-draining.ensures (seen s) standing.running.ready in
    let events = take c.take_events-count.result c.take_events-count.new.into in
    let coming = drop c.take_events-count.new.next s.script.events in
    let m5 : MachineParts = record m4 { board = c.set_timer.new.board; coming = coming } in
    let steps : AreSteps t events c.drains-draining.result c.pick_next-who.result (seen s) m1 m2 m3 m4 m5 c.devices.new.lines c.drain_where.new.lines c.pick_next-who.new.lines c.unit-change.new.lines c.set_timer.new.lines c.unit-change.result = record {
      draining = draining;
      first = d;
      second = r;
      third = p;
      on = c.pick_next-who.ensures.on;
      third_hardware = refl;
      fourth = u;
      fifth = c.set_timer.ensures.hardware m3 m4 refl p.running u.running u.dues refl;
      bare_stays = timed_bare m4 c.set_timer.new.board coming c.set_timer.ensures.rest;
      real_stays = timed_real m4 c.set_timer.new.board coming c.set_timer.ensures.rest;
      r_stays = ap (λ (l : TickLines). l.r) c.set_timer.ensures.lines;
      g_stays = ap (λ (l : TickLines). l.g) c.set_timer.ensures.lines;
    } in
    let same : events ≡ at_tick t (seen s).coming = c.take_events-count.ensures.events ∙ ap (λ es. at_tick t (drop s.next es)) c.as_slice.ensures in
    let ticked = tick_step _ _ _ _ _ _ _ _ _ _ _ _ _ _ _ _ steps same in
    let stands : IsStanding m5 = record {
      running = timed_running m4 c.set_timer.new.board coming c.set_timer.ensures.rest c.set_timer.ensures.board u.running;
      planned = planned_after s.ticks t (seen s) m5 c.set_timer.new.lines e standing.planned ticked;
      timely = timely_after _ _ _ _ _ _ _ _ _ _ _ _ _ _ _ _ steps s.ticks e standing.timely;
    } in
    stands

pub invariant_of-self : goal.invariant_of-self
invariant_of-self c =
    let s = c.self.inside in
    let t = s.ticks + 1 in
    let e : t ≡ suc s.ticks = add-one s.ticks in
    let below = rw (← c.self.view_is) at c.requires in
    let few : t ≤ 1000000000 = omega (arith, below) in
    let standing = c.self.invariant.standing in
    let d = c.devices.ensures.step (seen s) e few standing.running in
    let m1 : MachineParts = record (seen s) { board = c.devices.new.board; ticks = t } in
    let r = c.drain_where.ensures.steps m1 refl d.running in
    let m2 : MachineParts = record m1 { board = c.drain_where.new.board; all = c.drain_where.new.all; guest = c.drain_where.new.guest; last = c.drain_where.new.last } in
    let p = c.pick_next-who.ensures.step m2 (λ h. r.emptied h) r.running in
    let m3 : MachineParts = record m2 { processor = c.pick_next-who.new.processor; all = c.pick_next-who.new.all; memory = c.pick_next-who.new.memory; modules = c.pick_next-who.new.inits } in
    let u = c.unit-change.ensures.steps m3 refl p.running in
    let m4 : MachineParts = record m3 { memory = c.unit-change.new.memory; processor = c.unit-change.new.processor; board = c.unit-change.new.board; all = c.unit-change.new.all; guest = c.unit-change.new.guest } in
    let draining = c.drains-draining.ensures (seen s) standing.running.ready in
    let events = take c.take_events-count.result c.take_events-count.new.into in
    let coming = drop c.take_events-count.new.next s.script.events in
    let m5 : MachineParts = record m4 { board = c.set_timer.new.board; coming = coming } in
    let steps : AreSteps t events c.drains-draining.result c.pick_next-who.result (seen s) m1 m2 m3 m4 m5 c.devices.new.lines c.drain_where.new.lines c.pick_next-who.new.lines c.unit-change.new.lines c.set_timer.new.lines c.unit-change.result = record {
      draining = draining;
      first = d;
      second = r;
      third = p;
      on = c.pick_next-who.ensures.on;
      third_hardware = refl;
      fourth = u;
      fifth = c.set_timer.ensures.hardware m3 m4 refl p.running u.running u.dues refl;
      bare_stays = timed_bare m4 c.set_timer.new.board coming c.set_timer.ensures.rest;
      real_stays = timed_real m4 c.set_timer.new.board coming c.set_timer.ensures.rest;
      r_stays = ap (λ (l : TickLines). l.r) c.set_timer.ensures.lines;
      g_stays = ap (λ (l : TickLines). l.g) c.set_timer.ensures.lines;
    } in
    let same : events ≡ at_tick t (seen s).coming = c.take_events-count.ensures.events ∙ ap (λ es. at_tick t (drop s.next es)) c.as_slice.ensures in
    let ticked = tick_step _ _ _ _ _ _ _ _ _ _ _ _ _ _ _ _ steps same in
    let stands : IsStanding m5 = record {
      running = timed_running m4 c.set_timer.new.board coming c.set_timer.ensures.rest c.set_timer.ensures.board u.running;
      planned = planned_after s.ticks t (seen s) m5 c.set_timer.new.lines e standing.planned ticked;
      timely = timely_after _ _ _ _ _ _ _ _ _ _ _ _ _ _ _ _ steps s.ticks e standing.timely;
    } in
    record {
      standing = stands;
      place = rw (← c.as_slice.ensures) c.take_events-count.ensures.place;
      coming = rw (← c.as_slice.ensures) c.take_events-count.ensures.coming;
    }

pub returns-clause-coming : goal.returns-clause-coming
returns-clause-coming c =
    let later = c.take_events-count.ensures.later in
    rw (← c.self.view_is) (rw (c.as_slice.ensures) at later)
