use Rattle.schedule_laws.proofs.PriorityLaw.{run_read}
use Rattle.schedule_laws.proofs.threads_seen.Goals as goal

pub returns : goal.returns
returns c = λ start script n calls k h.
    let p = run_read start script n calls k h in
    record { priorities = p.is_read.reads.priorities_are; ready = p.is_read.reads.ready_are }
