use Rattle.rtlinux_top.proofs.Unread.{unread_of_system}
use Rattle.rtlinux_top.proofs.request.request_system.Goals as goal

pub returns-clause-unread : goal.returns-clause-unread
returns-clause-unread g c = unread_of_system c.request_run.result _ _ c.request_run.ensures.unread
