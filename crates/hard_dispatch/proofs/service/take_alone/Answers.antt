use Rattle.std.proofs.Common.{◌∙◌, ap}
use Rattle.pic_8259.specs.Controllers.{written}
use Rattle.hard_dispatch.proofs.Alone.{alone_steps}
use Rattle.hard_dispatch.proofs.service.take_alone.Goals as goal

pub returns-clause-stood : goal.returns-clause-stood
returns-clause-stood c = (alone_steps c.args.pair.now c.mask_all_but.new.pair c.acknowledge.new.self c.finish_where.new.pair c.write-2.new.self c.args.line c.acknowledge.result c.is_some-stood.result
    c.requires.booted c.mask_all_but.ensures.before c.requires.within c.requires.no_cascade c.mask_all_but.ensures.masked c.acknowledge.ensures.vector c.is_some-stood.ensures c.acknowledge.ensures.after c.finish_where.ensures (c.write-2.ensures.registers ∙ ap (written 161 0) c.write.ensures.registers)).0

pub returns-clause-pair : goal.returns-clause-pair
returns-clause-pair c = (alone_steps c.args.pair.now c.mask_all_but.new.pair c.acknowledge.new.self c.finish_where.new.pair c.write-2.new.self c.args.line c.acknowledge.result c.is_some-stood.result
    c.requires.booted c.mask_all_but.ensures.before c.requires.within c.requires.no_cascade c.mask_all_but.ensures.masked c.acknowledge.ensures.vector c.is_some-stood.ensures c.acknowledge.ensures.after c.finish_where.ensures (c.write-2.ensures.registers ∙ ap (written 161 0) c.write.ensures.registers)).1
