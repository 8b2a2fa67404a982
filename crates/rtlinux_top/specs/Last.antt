-- What is kept of a run.
use Rattle.run_files.specs.declared.run.AcceptedRun.{AcceptedRun}
use Rattle.run_stream.specs.Ran.{StandsAfter}
use Rattle.rtlinux_top.specs.declared.last.Last.{Last}
use Rattle.rtlinux_top.specs.declared.last.Last.TheVariants.{Nothing, Ran}

-- the machine of a run after its ticks was kept, and stands for what the definitions come to after them
abbrev pub KeepsMachine : AcceptedRun → Last → Type 0
KeepsMachine run Nothing = ⊥
KeepsMachine run (Ran machine) = StandsAfter run machine
