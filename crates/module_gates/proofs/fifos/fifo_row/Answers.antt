use Rattle.std.proofs.Common.{rules, ◌≡◌, w32, to_z, of_z}
use Rattle.module_gates.proofs.fifos.fifo_row.Goals as goal

pub returns-in-FifoGet-clause-answer : goal.returns-in-FifoGet-clause-answer
returns-in-FifoGet-clause-answer c = λ t who p.
    let same : to_z w32 (of_z w32 c.get.result) ≡ c.get.result = search rules in
    rw (c.in-FifoGet.is, same) (c.get.ensures.answer t who p)
