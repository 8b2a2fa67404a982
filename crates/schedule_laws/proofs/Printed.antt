-- The lines of both halves and of the hardware are those of a run's output.
use Rattle.bare_machine.specs.Run.{bare_after, bare_end, bare_lines}
use Rattle.priority_schedule.specs.Run.{real_after, real_end, real_lines}
use Rattle.hardware_lines.specs.Hardware.{hardware_lines}
use Rattle.run_output.proofs.Found.{real_time_found, guest_found, hardware_found}
use Rattle.schedule_laws.specs.Laws.{OutputLosesNothing}

pub loses_nothing : OutputLosesNothing
loses_nothing = record {
  of_real = λ h start n r calls. real_time_found h n (real_lines start.real start.script calls) (hardware_lines start r calls) (bare_lines start.guest start.script r) (real_end (real_after start.real start.script calls n)) (bare_end (bare_after start.guest start.script r n));
  of_guest = λ h start n r calls. guest_found h n (real_lines start.real start.script calls) (hardware_lines start r calls) (bare_lines start.guest start.script r) (real_end (real_after start.real start.script calls n)) (bare_end (bare_after start.guest start.script r n));
  of_hardware = λ start n r calls. hardware_found n (real_lines start.real start.script calls) (hardware_lines start r calls) (bare_lines start.guest start.script r) (real_end (real_after start.real start.script calls n)) (bare_end (bare_after start.guest start.script r n));
}
