use Rattle.work_maker.proofs.Rules.{keeps}
use Rattle.work_maker.proofs.laws.keeps_rules.Goals as goal

pub returns : goal.returns
returns c = keeps
