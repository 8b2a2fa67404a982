-- What a unit did to the dues.
use Rattle.std.specs.Prelude.{◌≡◌}
use Rattle.rt_timeline.specs.Dues.{Dues, nearest_due}
use Rattle.machine_state.specs.declared.change.DueChange.{DueChange}
use Rattle.machine_state.specs.declared.change.DueChange.TheVariants.{Same, Was}

-- they stayed, or this was the nearest one
abbrev pub TellsDues : DueChange → Dues → Dues → Type 0
TellsDues Same old new = new ≡ old
TellsDues (Was before) old new = before ≡ nearest_due old
