-- The script's events of ticks to come.
use Rattle.std.specs.Prelude.{ℕ, ◌≤◌, ◌==◌, nat_lt, Bool, false, [], ◌∷◌, filter, IsTrue}
use Rattle.std.specs.List.{list_all}
use Rattle.device_script.specs.Event.{Events, is_event, ticks_rise, count_at}

-- those of ticks above t, in their order
abbrev pub above : ℕ → Events → Events
above t = filter (λ e. nat_lt t e.0)

-- events of which none is of a tick before t: ticks never fall, and at most 16 have one tick
pub record AreComing (t : ℕ) (events : Events) : Type 0 where
  pub good : IsTrue (list_all is_event events)
  pub order : IsTrue (ticks_rise t events)
  pub few : (tick : ℕ) → count_at tick events ≤ 16

-- is the first of them of tick t?
abbrev pub comes : ℕ → Events → Bool
comes t [] = false
comes t (e ∷ es) = e.0 == t
