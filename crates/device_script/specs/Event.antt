-- The events of a script, each with its tick, and the rules that they keep.
use Rattle.std.specs.Prelude.{IsTrue, ℕ, ◌≤◌, ◌==◌, ◌&&◌, ◌||◌, Bool, true, List, [], ◌∷◌, nat_le, nat_lt, count_by}
use Rattle.std.specs.List.{list_all}
use Rattle.device_script.specs.declared.event.Event.{Event}
use Rattle.device_script.specs.declared.event.Event.TheVariants.{Line, Com1, Com2}

abbrev pub Events : Type 0
Events = List (ℕ × Event)

-- an interrupt line that a script may raise: not the timer's, the cascade's, or those of the serial ports
abbrev pub is_line : ℕ → Bool
is_line n = n == 1 || (nat_le 5 n && nat_le n 15)

abbrev pub is_device_event : Event → Bool
is_device_event (Line n) = is_line n
is_device_event (Com1 byte) = true
is_device_event (Com2 byte) = true

abbrev pub is_tick : ℕ → Bool
is_tick tick = nat_le 1 tick && nat_le tick 1000000000

abbrev pub is_event : ℕ × Event → Bool
is_event e = is_tick e.0 && is_device_event e.1

-- none of these events is later than a tick
abbrev pub none_later : ℕ → Events → Bool
none_later tick = list_all (λ e. nat_le e.0 tick)

-- how many of these events have a tick
abbrev pub count_at : ℕ → Events → ℕ
count_at tick = count_by (λ e. e.0 == tick)

-- an event of this tick may stand behind these: ticks never fall, and at most 16 events have one tick
abbrev pub follows : Events → ℕ → Bool
follows before tick = none_later tick before && nat_lt (count_at tick before) 16

-- the ticks never fall, from this one on
abbrev pub ticks_rise : ℕ → Events → Bool
ticks_rise from [] = true
ticks_rise from (e ∷ es) = nat_le from e.0 && ticks_rise e.0 es

-- what the events of every script keep
pub record IsScript (events : Events) : Type 0 where
  pub good : IsTrue (list_all is_event events)
  pub order : IsTrue (ticks_rise 0 events)
  pub few : (tick : ℕ) → count_at tick events ≤ 16
