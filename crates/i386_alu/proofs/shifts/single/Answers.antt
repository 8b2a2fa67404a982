use Rattle.std.proofs.Common.{rules}
use Rattle.i386_alu.specs.Shift.{single_of}
use Rattle.i386_alu.proofs.shifts.single.Goals as goal

pub returns-in-Rcr-clause-value : goal.returns-in-Rcr-clause-value
unfolding single_of
returns-in-Rcr-clause-value c = search rules
