-- Releases and the pick over threads with other registers of one.
use Rattle.std.proofs.Common.{◌≡◌, ℕ, zero, suc, Bool, List, [], ◌∷◌, ◌++◌, refl, sym, ap, ◌∙◌, Option, Some, None, option_map}
use Rattle.std.specs.Prelude.{if◌then◌else◌, slice_set}
use Rattle.std.proofs.lemmas.List.{map-set, set-get_or}
use Rattle.cpu_state.specs.declared.registers.Registers.{Registers}
use Rattle.line_kinds.specs.declared.kinds.RLine.TheVariants.{Release}
use Rattle.line_kinds.specs.declared.kinds.Who.{Who}
use Rattle.line_kinds.specs.declared.kinds.Who.TheVariants.{Guest, Thread as ThreadOn, Init, Irq, Fifo as FifoOn}
use Rattle.rt_threads.specs.declared.threads.Thread.{Thread}
use Rattle.rt_threads.specs.declared.threads.State.TheVariants.{Ready}
use Rattle.rt_threads.specs.Threads.{due_held, dues_of, given_registers, priority_in, priority_of, thread_at, with_state, with_thread}
use Rattle.rt_irqs.specs.Irqs.{next_of}
use Rattle.rt_fifos.specs.Fifos.{next_marked}
use Rattle.rt_ready.specs.declared.ready.Place.{Place}
use Rattle.rt_ready.specs.Order.{Arrival, first_place, joined, place_of, places}
use Rattle.rt_timeline.specs.declared.timeline.ThreadDue.{ThreadDue}
use Rattle.rt_timeline.specs.Dues.{come, nearest_from}
use Rattle.activity_contexts.proofs.Changes.{changes_commute, read_same}
use Rattle.priority_schedule.specs.State.{RealTime}
use Rattle.priority_schedule.specs.Release.{nearest, released, Ticking, while_one, with_released}
use Rattle.priority_schedule.specs.Pick.{first_of_all, next_activity, next_module, pick_after}
use Rattle.schedule_steps.specs.Laws.{PicksKeepContexts, ReleasesKeepContexts}

abbrev over : ℕ → Registers → RealTime → RealTime
over i r m = record m { threads = with_thread i (given_registers r) m.threads }

abbrev ticking_over : ℕ → Registers → Ticking → Ticking
ticking_over i r s = record s { real = over i r s.real }

due_kept : (r : Registers) (slot : Option Thread) → due_held (option_map (given_registers r) slot) ≡ due_held slot
due_kept r None = refl
due_kept r (Some th) = refl

pub dues_kept : (i : ℕ) (r : Registers) (threads : List (Option Thread)) → dues_of (with_thread i (given_registers r) threads) ≡ dues_of threads
dues_kept i r threads =
    map-set due_held threads i (option_map (given_registers r) (thread_at threads i))
    ∙ ap (slice_set (dues_of threads) i) (due_kept r (thread_at threads i))
    ∙ sym (map-set due_held threads i (thread_at threads i))
    ∙ ap dues_of (set-get_or threads i None)

nearest_kept : (i : ℕ) (r : Registers) (threads : List (Option Thread)) → nearest (with_thread i (given_registers r) threads) ≡ nearest threads
unfolding nearest
nearest_kept i r threads = ap (nearest_from 0) (dues_kept i r threads)

joined_kept : (i : ℕ) (r : Registers) (d : ThreadDue) (s : Ticking) → with_released d (ticking_over i r s) ≡ ticking_over i r (with_released d s)
joined_kept i r d s =
    ap (λ ts. record { real = record s.real { threads = ts; ready = joined d.id d.due s.real.ready }; lines = s.lines ++ Release d.id ∷ [] })
    (changes_commute s.real.threads i d.id (given_registers r) (with_state Ready) (λ th. refl))

released_kept : (k t i : ℕ) (r : Registers) (s : Ticking) → released k t (ticking_over i r s) ≡ ticking_over i r (released k t s)
unfolding released
released_kept zero t i r s = refl
released_kept (suc k) t i r s =
    ap (λ o. while_one (come t o) (released k t) (ticking_over i r s)) (nearest_kept i r s.real.threads)
    ∙ elim (come t (nearest s.real.threads)) as (λ o. while_one o (released k t) (ticking_over i r s) ≡ ticking_over i r (while_one o (released k t) s)) [
      | None ↦ refl
      | Some d ↦ ap (released k t) (joined_kept i r d s) ∙ released_kept k t i r (with_released d s)
    ]

pub releases_kept : ReleasesKeepContexts
releases_kept k t None r s = refl
releases_kept k t (Some Guest) r s = refl
releases_kept k t (Some (Init n)) r s = refl
releases_kept k t (Some (Irq line)) r s = refl
releases_kept k t (Some (FifoOn f)) r s = refl
releases_kept k t (Some (ThreadOn i)) r s = released_kept k t i r s

priority_kept : (r : Registers) (slot : Option Thread) → priority_in (option_map (given_registers r) slot) ≡ priority_in slot
priority_kept r None = refl
priority_kept r (Some th) = refl

places_kept : (f g : ℕ → ℕ) (ready : List Arrival) → ((j : ℕ) → f j ≡ g j) → places f ready ≡ places g ready
places_kept f g [] h = refl
places_kept f g (a ∷ ready) h =
    ap (λ n. record { id = a.id; priority = n; since = a.since } ∷ places f ready) (h a.id) ∙ ap (λ ps. place_of g a ∷ ps) (places_kept f g ready h)

next_kept : (draining : Bool) (i : ℕ) (r : Registers) (m : RealTime) → next_activity draining (over i r m) ≡ next_activity draining m
next_kept draining i r m =
    ap (λ ps. first_of_all (
    next_module m.modules
    ∷ (if draining then option_map Irq (next_of m.irqs) else None)
    ∷ (if draining then option_map FifoOn (next_marked m.fifos) else None)
    ∷ option_map (λ (p : Place). ThreadOn p.id) (first_place m.version ps)
    ∷ []))
    (places_kept (priority_of (over i r m).threads) (priority_of m.threads) m.ready (read_same priority_in (given_registers r) (priority_kept r) m.threads i))

pick_kept : (draining : Bool) (i : ℕ) (r : Registers) (m : RealTime) (on : Option Who) → pick_after draining (over i r m) on ≡ pick_after draining m on
pick_kept draining i r m None = next_kept draining i r m
pick_kept draining i r m (Some Guest) = next_kept draining i r m
pick_kept draining i r m (Some (ThreadOn k)) = next_kept draining i r m
pick_kept draining i r m (Some (Init n)) = refl
pick_kept draining i r m (Some (Irq line)) = refl
pick_kept draining i r m (Some (FifoOn f)) = refl

pub picks_kept : PicksKeepContexts
picks_kept draining None r m = refl
picks_kept draining (Some Guest) r m = refl
picks_kept draining (Some (Init n)) r m = refl
picks_kept draining (Some (Irq line)) r m = refl
picks_kept draining (Some (FifoOn f)) r m = refl
picks_kept draining (Some (ThreadOn i)) r m = pick_kept draining i r m m.on
