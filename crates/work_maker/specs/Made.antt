-- What is made of a number, for a run of so many ticks.
use Rattle.std.specs.Prelude.{ℕ}
use Rattle.work_maker.specs.declared.made.Made.{Made}
use Rattle.work_maker.specs.Guest.{guest_of}
use Rattle.work_maker.specs.Module.{module_of}
use Rattle.work_maker.specs.Script.{events_of}

abbrev pub made_of : ℕ → ℕ → Made
made_of number ticks = record { guest = guest_of number; «module» = module_of number; script = record { events = events_of number ticks } }
