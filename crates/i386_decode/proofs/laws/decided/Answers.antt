use Rattle.i386_decode.proofs.SpellingLaws.{form_decided, short_decided, undefined_decided}
use Rattle.i386_decode.proofs.laws.decided.Goals as goal

pub returns-clause-form : goal.returns-clause-form
returns-clause-form c = form_decided

pub returns-clause-short : goal.returns-clause-short
returns-clause-short c = short_decided

pub returns-clause-undefined : goal.returns-clause-undefined
returns-clause-undefined c = undefined_decided
