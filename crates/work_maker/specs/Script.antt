-- The script: an event in each whole thousand of ticks but the first, at most 100,000.
use Rattle.std.specs.Prelude.{ℕ, zero, suc, ◌+◌, ◌*◌, ◌/◌, ◌==◌, [], ◌∷◌, min, if◌then◌else◌}
use Rattle.device_script.specs.declared.event.Event.{Event}
use Rattle.device_script.specs.declared.event.Event.TheVariants.{Line, Com1}
use Rattle.device_script.specs.Event.{Events}
use Rattle.work_maker.specs.Draws.{draw, after, before_script}

-- kind 0: line 5 rises; kind 1: COM1 receives a byte, which is drawn behind the others
abbrev pub met : ℕ → ℕ → Event
met kind x = if kind == 0 then Line 5 else Com1 (draw 256 x)

-- x behind that
abbrev pub behind_met : ℕ → ℕ → ℕ
behind_met kind x = if kind == 0 then x else after 1 x

-- event j, of which first the kind is drawn and then the place in its thousand ticks
abbrev pub event_of : ℕ → ℕ → ℕ × Event
event_of j x = (1000 * j + draw 900 (after 1 x), met (draw 2 x) (after 2 x))

-- x behind it
abbrev pub behind_event : ℕ → ℕ
behind_event x = behind_met (draw 2 x) (after 2 x)

-- the next n events, from number j on
abbrev pub events_from : ℕ → ℕ → ℕ → Events
events_from zero j x = []
events_from (suc n) j x = event_of j x ∷ events_from n (j + 1) (behind_event x)

abbrev pub event_count : ℕ → ℕ
event_count ticks = min (ticks / 1000) 100000

unfoldable pub events_of : ℕ → ℕ → Events
events_of number ticks = events_from (event_count ticks) 1 (before_script number)
