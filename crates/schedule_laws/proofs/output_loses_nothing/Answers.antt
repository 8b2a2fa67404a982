use Rattle.schedule_laws.proofs.Printed.{loses_nothing}
use Rattle.schedule_laws.proofs.output_loses_nothing.Goals as goal

pub returns : goal.returns
returns c = loses_nothing
