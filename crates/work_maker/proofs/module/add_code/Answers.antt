use Rattle.std.proofs.Common.{rules, append_assoc}
use Rattle.work_maker.specs.Module.{module_code}
use Rattle.work_maker.proofs.module.add_code.Goals as goal

pub returns-clause-code : goal.returns-clause-code
unfolding module_code
returns-clause-code c = search (rules, append_assoc)
