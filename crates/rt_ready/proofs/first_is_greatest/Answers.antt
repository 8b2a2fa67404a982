use Rattle.rt_ready.proofs.Greatest.{is_greatest, is_longest_ready, is_there}
use Rattle.rt_ready.proofs.first_is_greatest.Goals as goal

pub returns-clause-greatest : goal.returns-clause-greatest
returns-clause-greatest c = is_greatest

pub returns-clause-longest_ready : goal.returns-clause-longest_ready
returns-clause-longest_ready c = is_longest_ready

pub returns-clause-there : goal.returns-clause-there
returns-clause-there c = is_there
