-- What a reader keeps beside the events that it has read: the last tick, and how many events have it.
use Rattle.std.specs.Prelude.{◌≡◌, ℕ, ◌≤◌, ◌==◌, ◌&&◌, ◌||◌, Bool, true, nat_lt, if◌then◌else◌}
use Rattle.device_script.specs.Event.{Events, none_later, count_at}

pub record IsCounted (events : Events) (last same : ℕ) : Type 0 where
  pub all_before : none_later last events ≡ true
  pub counted : count_at last events ≡ same
  pub held : 1 ≤ last → 1 ≤ same
  pub few : same ≤ 16

-- whether an event of this tick may come next
abbrev pub counted_follows : ℕ → ℕ → ℕ → Bool
counted_follows last same tick = nat_lt last tick || (last == tick && nat_lt same 16)

-- how many events have the tick of the next one
abbrev pub kept_of : ℕ → ℕ → ℕ → ℕ
kept_of last same tick = if tick == last then same else 0
