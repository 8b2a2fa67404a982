-- The run of `flat`.
use Rattle.std.specs.Prelude.{ℕ, List, [], ◌++◌, length, drop}
use Rattle.flat_memory.specs.Zeros.{zeros}
use Rattle.run_files.specs.declared.run.AcceptedRun.{AcceptedRun}
use Rattle.run_files.specs.declared.run.Report.TheVariants.{Lines}
use Rattle.run_files.specs.declared.run.Shown.TheVariants.{Guest}
use Rattle.run_files.specs.declared.sides.Sides.{Sides}
use Rattle.run_files.specs.Stub.{stub_stored}

-- what `flat` starts: two sides of 65,536 bytes, the image at address 0 with zeros behind it, the stub on the other side, and the entry 0
unfoldable pub flat_sides : List ℕ → Sides
flat_sides image = record {
  memory = record { guest = image ++ drop (length image) (zeros 65536); real_time = stub_stored (zeros 65536) };
  entry = 0;
}

-- its run, without modules or a script, in version 1 of the rule that picks, of which the guest's lines are shown and written
abbrev pub flat_run : List ℕ → ℕ → AcceptedRun
flat_run image ticks = record { sides = flat_sides image; inits = []; version = 1; script = record { events = [] }; ticks = ticks; shown = Guest; report = Lines }
