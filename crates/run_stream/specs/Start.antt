-- What both machines of a run start from.
use Rattle.hardware_lines.specs.RunStart.{RunStart}
use Rattle.rt_core.specs.Start.{start_of, real_start_of}
use Rattle.run_files.specs.declared.run.AcceptedRun.{AcceptedRun}

-- the guest, the real-time side with the inits of its modules, in the run's version of the rule that picks, and the script
abbrev pub run_start : AcceptedRun → RunStart
run_start run = record {
  guest = start_of run.sides.memory run.sides.entry;
  real = real_start_of run.sides.memory run.version run.inits;
  script = run.script.events;
}
