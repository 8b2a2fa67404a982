use Rattle.std.proofs.Common.{rules}
use Rattle.make_request.proofs.request.request_make.Goals as goal

pub returns-in-Ok-make_run-clause-told : goal.returns-in-Ok-make_run-clause-told
returns-in-Ok-make_run-clause-told c = search rules
