use Rattle.rtlinux_top.proofs.Made.{told_of_made}
use Rattle.rtlinux_top.proofs.request.request_made.Goals as goal

pub returns-clause-told : goal.returns-clause-told
returns-clause-told c = λ held. told_of_made c.request_make.result _ held c.request_make.ensures.told
