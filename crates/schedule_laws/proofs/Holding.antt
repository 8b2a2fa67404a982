-- Who holds the processor in a tick, as its lines say: what was picked.
use Rattle.std.proofs.Common.{◌≡◌, ℕ, zero, suc, Bool, true, false, refl, sym, ◌∙◌, List, [], ◌∷◌, ◌++◌, if◌then◌else◌, Option, Some, None, fold, ◌⊎◌, ⊎_elim}
use Rattle.std.proofs.lemmas.List.Sums.{fold-append}
use Rattle.device_script.specs.declared.event.Event.{Event}
use Rattle.port_map.specs.SerialLine.{byte_sent}
use Rattle.priority_schedule.specs.Pick.{pick}
use Rattle.rt_constants.specs.declared.limits.TheConstants.{THREADS_LIMIT}
use Rattle.rt_timeline.specs.declared.timeline.ThreadDue.{ThreadDue}
use Rattle.rt_timeline.specs.Dues.{come}
use Rattle.priority_schedule.specs.Release.{Ticking, nearest, with_released, while_one, released, drained, drains}
use Rattle.priority_schedule.specs.State.{RealTime}
use Rattle.priority_schedule.specs.Tick.{begun, com2_lines, after_devices, devices, is_on, started, turned_to, picked, opened}
use Rattle.line_kinds.specs.declared.kinds.RLine.TheVariants.{On, Release}
use Rattle.line_kinds.specs.declared.kinds.Who.{Who}
use Rattle.run_lines.specs.Says.{held_by}
use Rattle.schedule_laws.proofs.PriorityLaw.{is_on_is}
use Rattle.schedule_laws.proofs.Solutions.{holder_picked}
use Rattle.schedule_laws.specs.Laws.{PickHolds}

-- lines that name no holder, in a state in which this is on
record Names (on : Option Who) (s : Ticking) : Type 0 where
  none : (w : Option Who) → fold held_by w s.lines ≡ w
  stays : s.real.on ≡ on

com2_names : (m : RealTime) (o : Option ℕ) → Names m.on (record { real = m; lines = [] ++ com2_lines o })
com2_names m None = record { none = λ w. refl; stays = refl }
com2_names m (Some b) = record { none = λ w. refl; stays = refl }

one_names : (on : Option Who) (d : ThreadDue) (s : Ticking) → Names on s → Names on (with_released d s)
one_names on d s h = record { none = λ w. fold-append held_by w s.lines (Release d.id ∷ []) ∙ h.none w; stays = h.stays }

released_names : (on : Option Who) (k t : ℕ) (s : Ticking) → Names on s → Names on (released k t s)
unfolding released
released_names on zero t s h = h
released_names on (suc k) t s h =
    elim (come t (nearest s.real.threads)) as (λ o. Names on (while_one o (released k t) s)) [
      | None ↦ h
      | Some d ↦ released_names on k t (with_released d s) (one_names on d s h)
    ]

if_names : (on : Option Who) (b : Bool) (x y : Ticking) → Names on x → Names on y → Names on (if b then x else y)
if_names on true x y p q = p
if_names on false x y p q = q

drained_names : (on : Option Who) (draining : Bool) (t : ℕ) (s : Ticking) → Names on s → Names on (drained draining t s)
drained_names on draining t s h = if_names on draining (released THREADS_LIMIT t s) s (released_names on THREADS_LIMIT t s h) h

devices_names : (events : List Event) (m : RealTime) → Names m.on (devices events (begun m))
unfolding devices
devices_names events m = com2_names (after_devices events m) (byte_sent m.com2)

-- where nothing was on, or what the lines so far name
last_named : (w on : Option Who) (who : Who) → (on ≡ None) ⊎ (on ≡ w) → on ≡ Some who → w ≡ Some who
last_named w on who h e = ⊎_elim (λ n. absurd (let f : None ≡ Some who = sym n ∙ e in cc)) (λ s. sym s ∙ e) h

turned_names : (w on : Option Who) (who : Who) (s : Ticking) → (on ≡ None) ⊎ (on ≡ w) → Names on s → fold held_by w (turned_to who s).lines ≡ (turned_to who s).real.on
turned_names w on who s h n =
    elim (is_on who s.real.on) as (λ b. is_on who s.real.on ≡ b
    → let t = if b then s else record { real = record (started who s.real) { on = Some who }; lines = s.lines ++ On who ∷ [] } in fold held_by w t.lines ≡ t.real.on) [
      | true ↦ λ e. let same = is_on_is who s.real.on e in n.none w ∙ last_named w on who h (sym n.stays ∙ same) ∙ sym same
      | false ↦ λ e. fold-append held_by w s.lines (On who ∷ [])
    ] refl

opened_names : (t : ℕ) (events : List Event) (m : RealTime) (w : Option Who) → (m.on ≡ None) ⊎ (m.on ≡ w) → fold held_by w (opened t events m).lines ≡ (opened t events m).real.on
unfolding picked
opened_names t events m w h =
    let s = drained (drains m) t (devices events (begun m)) in
    turned_names w m.on (pick (drains m) s.real) s h (drained_names m.on (drains m) t (devices events (begun m)) (devices_names events m))

pub pick_holds : PickHolds
pick_holds t events call m w h = holder_picked w t events call m ∙ opened_names t events m w h
