use Rattle.rtlinux_top.specs.Words.{command_of}
use Rattle.rtlinux_top.proofs.Complete.{complete}
use Rattle.rtlinux_top.proofs.Headline.{headline}
use Rattle.rtlinux_top.proofs.answer.rtlinux.Goals as goal

pub returns-clause-headline : goal.returns-clause-headline
returns-clause-headline g c = λ determined.
    headline (g.S.Store.held c.args.store.now) (command_of c.args.words.now.items) c.answer.result (g.K.Sink.written c.args.sink.now) (g.K.Sink.written c.answer.new.sink) (c.answer.ensures.course.told determined)

pub returns-clause-complete : goal.returns-clause-complete
returns-clause-complete g c = complete _ _ _ _ _ _ _ _ _ _ _ c.answer.ensures.course
