-- The guest is picked only in a tick that drains: else a thread that isn't open, an init or a handler is on, and a thread that is on is
-- ready.
use Rattle.std.proofs.Common.{◌≡◌, ℕ, zero, suc, Bool, true, false, not, ◌&&◌, refl, sym, ap, ◌∙◌, List, [], ◌∷◌, ◌++◌, if◌then◌else◌, Option, Some, None, subst}
use Rattle.device_script.specs.declared.event.Event.{Event}
use Rattle.line_kinds.specs.declared.kinds.RLine.TheVariants.{On}
use Rattle.line_kinds.specs.declared.kinds.Who.{Who}
use Rattle.line_kinds.specs.declared.kinds.Who.TheVariants.{Guest, Thread as ThreadOn, Init, Irq, Fifo as FifoOn}
use Rattle.line_kinds.specs.Calls.{Call}
use Rattle.run_lines.specs.Calls.{call_at}
use Rattle.run_lines.specs.Ticks.{at_tick}
use Rattle.priority_schedule.specs.Pick.{pick, pick_after}
use Rattle.priority_schedule.specs.Release.{Ticking, drained, drains, drains_at}
use Rattle.priority_schedule.specs.Run.{real_after}
use Rattle.rt_ready.specs.Order.{is_ready}
use Rattle.rt_threads.specs.Threads.{priority_of}
use Rattle.priority_schedule.specs.State.{RealTime, RealTimeStart, first_state}
use Rattle.priority_schedule.specs.Tick.{begun, devices, is_on, started, turned_to, picked, opened, stays, real_time_tick}
use Rattle.priority_schedule.specs.Unit.{RealUnit, unit_of}
use Rattle.schedule_laws.proofs.PickFirst.{none_first}
use Rattle.schedule_laws.proofs.PriorityLaw.{PickIs, pick_after_is, is_on_is}

-- a thread that is on is ready
abbrev OnReady : RealTime → Option Who → Type 0
OnReady m None = Unit {0}
OnReady m (Some Guest) = Unit {0}
OnReady m (Some (ThreadOn i)) = is_ready i m.ready ≡ true
OnReady m (Some (Init n)) = Unit {0}
OnReady m (Some (Irq line)) = Unit {0}
OnReady m (Some (FifoOn f)) = Unit {0}

and_right : (a b : Bool) → (a && b) ≡ true → b ≡ true
and_right true b h = h
and_right false b h = absurd cc

-- so after each tick
stays_ready : (u : RealUnit) (on : Option Who) → OnReady (record u.after { on = if stays u on then on else None }) (if stays u on then on else None)
stays_ready u None = elim (stays u None) as (λ b. OnReady (record u.after { on = if b then None else None }) (if b then None else None)) [ true ↦ tt | false ↦ tt ]
stays_ready u (Some Guest) = elim (stays u (Some Guest)) as (λ b. OnReady (record u.after { on = if b then Some Guest else None }) (if b then Some Guest else None)) [ true ↦ tt | false ↦ tt ]
stays_ready u (Some (Init n)) = elim (stays u (Some (Init n))) as (λ b. OnReady (record u.after { on = if b then Some (Init n) else None }) (if b then Some (Init n) else None)) [ true ↦ tt | false ↦ tt ]
stays_ready u (Some (Irq n)) = elim (stays u (Some (Irq n))) as (λ b. OnReady (record u.after { on = if b then Some (Irq n) else None }) (if b then Some (Irq n) else None)) [ true ↦ tt | false ↦ tt ]
stays_ready u (Some (FifoOn n)) = elim (stays u (Some (FifoOn n))) as (λ b. OnReady (record u.after { on = if b then Some (FifoOn n) else None }) (if b then Some (FifoOn n) else None)) [ true ↦ tt | false ↦ tt ]
stays_ready u (Some (ThreadOn i)) =
    elim (stays u (Some (ThreadOn i))) as (λ b. stays u (Some (ThreadOn i)) ≡ b → OnReady (record u.after { on = if b then Some (ThreadOn i) else None }) (if b then Some (ThreadOn i) else None)) [
      | true ↦ λ e. and_right (not u.ended) (is_ready i u.after.ready) e
      | false ↦ λ e. tt
    ] refl

pub tick_ready : (t : ℕ) (events : List Event) (call : Option Call) (m : RealTime) → let a = (real_time_tick t events call m).real in OnReady a a.on
tick_ready t events call m = let s = opened t events m in stays_ready (unit_of t call s.real s.real.on) s.real.on

-- what is picked is on
turned_on : (who : Who) (s : Ticking) → (turned_to who s).real.on ≡ Some who
turned_on who s =
    elim (is_on who s.real.on) as (λ b. is_on who s.real.on ≡ b → (if b then s else record { real = record (started who s.real) { on = Some who }; lines = s.lines ++ On who ∷ [] }).real.on ≡ Some who) [
      | true ↦ λ e. is_on_is who s.real.on e
      | false ↦ λ e. refl
    ] refl

-- no ready list has a thread where the guest is picked
guest_alone : (draining : Bool) (m : RealTime) (on : Option Who) → pick_after draining m on ≡ Guest → m.ready ≡ []
guest_alone draining m on e = none_first m.version (priority_of m.threads) m.ready (subst (λ w. PickIs m w) e (pick_after_is draining m on))

-- where the tick doesn't drain, something else is picked
closed_pick : (m d : RealTime) (on : Option Who) → d.ready ≡ m.ready → OnReady m on → drains_at m.threads on ≡ false → pick_after false d on ≡ Guest → drains_at m.threads on ≡ true
closed_pick m d None r h e p = absurd cc
closed_pick m d (Some Guest) r h e p = absurd cc
closed_pick m d (Some (Init n)) r h e p = absurd cc
closed_pick m d (Some (Irq n)) r h e p = absurd cc
closed_pick m d (Some (FifoOn n)) r h e p = absurd cc
closed_pick m d (Some (ThreadOn i)) r h e p =
    let none : m.ready ≡ [] = sym r ∙ guest_alone false d (Some (ThreadOn i)) p in
    let clash : false ≡ true = sym (ap (is_ready i) none) ∙ h in absurd cc

some_who : (a b : Who) → Some a ≡ Some b → a ≡ b
some_who a b h = cc

opened_drains : (t : ℕ) (events : List Event) (m : RealTime) → OnReady m m.on → (opened t events m).real.on ≡ Some Guest → drains m ≡ true
unfolding picked devices
opened_drains t events m h e =
    let d = devices events (begun m) in
    elim (drains m) as (λ b. drains m ≡ b → (picked b (drained b t d)).real.on ≡ Some Guest → drains m ≡ true) [
      | true ↦ λ q f. q
      | false ↦ λ q f.
          let p : pick false d.real ≡ Guest = some_who (pick false d.real) Guest (sym (turned_on (pick false d.real) d) ∙ f) in
          closed_pick m d.real m.on refl h q p
    ] refl e

on_ready : (m : RealTime) (on : Option Who) → ((i : ℕ) → on ≡ Some (ThreadOn i) → is_ready i m.ready ≡ true) → OnReady m on
on_ready m None h = tt
on_ready m (Some Guest) h = tt
on_ready m (Some (ThreadOn i)) h = h i refl
on_ready m (Some (Init n)) h = tt
on_ready m (Some (Irq n)) h = tt
on_ready m (Some (FifoOn n)) h = tt

pub tick_drains : (t : ℕ) (events : List Event) (m : RealTime) → ((i : ℕ) → m.on ≡ Some (ThreadOn i) → is_ready i m.ready ≡ true) → (opened t events m).real.on ≡ Some Guest → drains m ≡ true
tick_drains t events m h e = opened_drains t events m (on_ready m m.on h) e

module _ (start : RealTimeStart) (script : List (ℕ × Event)) (calls : List (ℕ × Call)) where
  run_ready : (k : ℕ) → OnReady (real_after start script calls k) (real_after start script calls k).on
  unfolding real_after first_state
  run_ready zero = tt
  run_ready (suc k) = tick_ready (suc k) (at_tick (suc k) script) (call_at (suc k) calls) (real_after start script calls k)

  pub run_drains : (k : ℕ) → (opened (suc k) (at_tick (suc k) script) (real_after start script calls k)).real.on ≡ Some Guest → drains (real_after start script calls k) ≡ true
  run_drains k e = opened_drains (suc k) (at_tick (suc k) script) (real_after start script calls k) (run_ready k) e
