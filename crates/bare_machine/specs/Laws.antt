-- What holds of every run.
use Rattle.std.specs.Prelude.{ℕ, ◌+◌, List}
use Rattle.device_script.specs.declared.event.Event.{Event}
use Rattle.line_kinds.specs.declared.kinds.RLine.{RLine}
use Rattle.run_lines.specs.Ticks.{IsPrefixOf}
use Rattle.bare_machine.specs.State.{GuestStart}
use Rattle.bare_machine.specs.Run.{bare_run}

abbrev pub GoOn : Type 0
GoOn = (start : GuestStart) (script : List (ℕ × Event)) (r : List (ℕ × RLine)) (n m : ℕ) → IsPrefixOf (bare_run start script r n) (bare_run start script r (n + m))
