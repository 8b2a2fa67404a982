use Rattle.std.proofs.Common.{rules, sym, ◌∙◌}
use Rattle.guest_step.proofs.Answering.{nothing_out}
use Rattle.guest_step.proofs.calls.put.Goals as goal

pub returns-clause-answers : goal.returns-clause-answers
returns-clause-answers c = record {
  result = search rules;
  bytes = c.new.ensures ∙ sym (nothing_out _ _ _);
  after = c.put-result.ensures.fifos;
}
