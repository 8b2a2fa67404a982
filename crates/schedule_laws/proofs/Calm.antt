-- What the guest sees in a tick: nothing of the lines before the unit but who is on.
use Rattle.std.proofs.Common.{◌≡◌, ℕ, zero, suc, Bool, true, false, refl, ap, ◌∙◌, List, [], ◌∷◌, ◌++◌, append_assoc, if◌then◌else◌, Option, Some, None, fold}
use Rattle.std.proofs.lemmas.List.Sums.{fold-append}
use Rattle.port_map.specs.SerialLine.{byte_sent}
use Rattle.device_script.specs.declared.event.Event.{Event}
use Rattle.priority_schedule.specs.Pick.{pick}
use Rattle.rt_constants.specs.declared.limits.TheConstants.{THREADS_LIMIT}
use Rattle.rt_timeline.specs.declared.timeline.ThreadDue.{ThreadDue}
use Rattle.rt_timeline.specs.Dues.{come}
use Rattle.priority_schedule.specs.Release.{Ticking, nearest, with_released, while_one, released, drained, drains}
use Rattle.priority_schedule.specs.State.{RealTime}
use Rattle.priority_schedule.specs.Tick.{begun, com2_lines, after_devices, devices, is_on, started, turned_to, picked, opened, real_time_tick}
use Rattle.priority_schedule.specs.Unit.{unit_of}
use Rattle.line_kinds.specs.Calls.{Call}
use Rattle.run_lines.specs.Says.{after_pend, pended, reply_in}
use Rattle.line_kinds.specs.declared.kinds.RLine.{RLine}
use Rattle.line_kinds.specs.declared.kinds.RLine.TheVariants.{On, Release}
use Rattle.line_kinds.specs.declared.kinds.Who.{Who}

-- lines with no mark and no reply
pub record Calm (s : Ticking) : Type 0 where
  pub pends : (p : ℕ) → fold after_pend p s.lines ≡ p
  pub replies : (xs : List RLine) → reply_in (s.lines ++ xs) ≡ reply_in xs

com2_calm : (m : RealTime) (o : Option ℕ) → Calm (record { real = m; lines = [] ++ com2_lines o })
com2_calm m None = record { pends = λ p. refl; replies = λ xs. refl }
com2_calm m (Some b) = record { pends = λ p. refl; replies = λ xs. refl }

one_calm : (d : ThreadDue) (s : Ticking) → Calm s → Calm (with_released d s)
one_calm d s h = record {
  pends = λ p. fold-append after_pend p s.lines (Release d.id ∷ []) ∙ h.pends p;
  replies = λ xs. ap reply_in (append_assoc s.lines (Release d.id ∷ []) xs) ∙ h.replies (Release d.id ∷ xs);
}

released_calm : (k t : ℕ) (s : Ticking) → Calm s → Calm (released k t s)
unfolding released
released_calm zero t s h = h
released_calm (suc k) t s h =
    elim (come t (nearest s.real.threads)) as (λ o. Calm (while_one o (released k t) s)) [
      | None ↦ h
      | Some d ↦ released_calm k t (with_released d s) (one_calm d s h)
    ]

if_calm : (b : Bool) (x y : Ticking) → Calm x → Calm y → Calm (if b then x else y)
if_calm true x y p q = p
if_calm false x y p q = q

turned_calm : (who : Who) (s : Ticking) → Calm s → Calm (turned_to who s)
turned_calm who s h = if_calm (is_on who s.real.on) s (record { real = record (started who s.real) { on = Some who }; lines = s.lines ++ On who ∷ [] }) h (record {
  pends = λ p. fold-append after_pend p s.lines (On who ∷ []) ∙ h.pends p;
  replies = λ xs. ap reply_in (append_assoc s.lines (On who ∷ []) xs) ∙ h.replies (On who ∷ xs);
})

drained_calm : (draining : Bool) (t : ℕ) (s : Ticking) → Calm s → Calm (drained draining t s)
drained_calm draining t s h = if_calm draining (released THREADS_LIMIT t s) s (released_calm THREADS_LIMIT t s h) h

pub opened_calm : (t : ℕ) (events : List Event) (m : RealTime) → Calm (opened t events m)
unfolding picked devices
opened_calm t events m =
    let d = devices events (begun m) in
    let s = drained (drains m) t d in
    turned_calm (pick (drains m) s.real) s (drained_calm (drains m) t d (com2_calm (after_devices events m) (byte_sent m.com2)))

-- the marks and the reply of a tick are those of its unit
pub tick_pends : (t : ℕ) (events : List Event) (call : Option Call) (m : RealTime) → pended (real_time_tick t events call m).lines ≡ pended (unit_of t call (opened t events m).real (opened t events m).real.on).lines
tick_pends t events call m =
    let s = opened t events m in
    let u = unit_of t call s.real s.real.on in
    fold-append after_pend 0 s.lines u.lines ∙ ap (λ p. fold after_pend p u.lines) ((opened_calm t events m).pends 0)

pub tick_replies : (t : ℕ) (events : List Event) (call : Option Call) (m : RealTime) → reply_in (real_time_tick t events call m).lines ≡ reply_in (unit_of t call (opened t events m).real (opened t events m).real.on).lines
tick_replies t events call m =
    let s = opened t events m in (opened_calm t events m).replies (unit_of t call s.real s.real.on).lines
