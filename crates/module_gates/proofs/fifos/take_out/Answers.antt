use Rattle.std.proofs.Common.{rules, ◌≡◌, w32, to_z, of_z, length, take}
use Rattle.module_gates.proofs.Replies.{counted}
use Rattle.module_gates.proofs.fifos.take_out.Goals as goal

pub returns-clause-bytes : goal.returns-clause-bytes
returns-clause-bytes c =
    let same : to_z w32 (of_z w32 c.get.result) ≡ c.get.result = search rules in
    let few : length (take c.args.count c.args.into.now) ≡ c.args.count = search rules in
    rw same (counted c.args.fifo c.args.count _ c.args.fifos.now c.get.result _ c.get.new.into _ few c.get.ensures.result c.get.ensures.into)
