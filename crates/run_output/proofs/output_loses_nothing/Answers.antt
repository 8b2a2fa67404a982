use Rattle.run_output.proofs.Found.{real_time_found, guest_found, hardware_found}
use Rattle.run_output.proofs.output_loses_nothing.Goals as goal

pub returns : goal.returns
returns c = record { real_time = real_time_found; guest = guest_found; hardware = hardware_found }
