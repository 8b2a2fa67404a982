use Rattle.std.proofs.Common.{arith, ◌∙◌}
use Rattle.std.proofs.lemmas.Bool.{ne_eqb}
use Rattle.ready_queues.proofs.Keys.{less_since, same_since, later_since, by_number}
use Rattle.ready_queues.proofs.walk.is_before.Goals as goal

pub returns-then-a-b : goal.returns-then-a-b
returns-then-a-b c = less_since c.args.version c.args.a c.args.b c.if-by_since.true (omega arith) c.if-a-b.true

pub returns-then-a-b-2 : goal.returns-then-a-b-2
returns-then-a-b-2 c = same_since c.args.version c.args.a c.args.b c.if-by_since.true c.if-a-b-2.true

pub returns-else-a-b-2 : goal.returns-else-a-b-2
returns-else-a-b-2 c = ne_eqb c.args.a.since c.args.b.since c.if-a-b-2.false ∙ later_since c.args.version c.args.a c.args.b c.if-by_since.true (omega arith) (omega (arith, c.if-a-b-2.false))

pub returns-else-by_since : goal.returns-else-by_since
returns-else-by_since c = by_number c.args.version c.args.a c.args.b c.if-by_since.false
