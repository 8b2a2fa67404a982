use Rattle.std.proofs.Common.{◌∙◌, ap, sym, is_some}
use Rattle.drain_step.proofs.Empty.{none_stands}
use Rattle.drain_step.proofs.step.stands.Goals as goal

pub returns : goal.returns
returns c = record {
  empty = λ none. none_stands c.args.pair.now c.request.ensures.pair c.requires.booted
      (sym (ap is_some c.request.ensures.line) ∙ sym c.is_some.ensures ∙ none);
}
