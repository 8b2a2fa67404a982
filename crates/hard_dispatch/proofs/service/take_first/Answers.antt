use Rattle.std.proofs.Common.{◌∙◌, ◌-◌, ap, sym}
use Rattle.hard_dispatch.specs.Service.{finished}
use Rattle.hard_dispatch.proofs.Requests.{took_at, first_none, empty_latch, finished-acknowledged}
use Rattle.hard_dispatch.proofs.service.take_first.Goals as goal

pub finish-requires : goal.finish-requires
finish-requires c = (took_at c.args.pair.now c.acknowledge.new.self c.in-Some.vector c.requires c.in-Some.ensures.before c.in-Some.ensures.vector c.in-Some.ensures.after).within

pub returns-in-Some-clause-first : goal.returns-in-Some-clause-first
returns-in-Some-clause-first c = sym (took_at c.args.pair.now c.acknowledge.new.self c.in-Some.vector c.requires c.in-Some.ensures.before c.in-Some.ensures.vector c.in-Some.ensures.after).first

pub returns-in-Some-clause-within : goal.returns-in-Some-clause-within
returns-in-Some-clause-within c = (took_at c.args.pair.now c.acknowledge.new.self c.in-Some.vector c.requires c.in-Some.ensures.before c.in-Some.ensures.vector c.in-Some.ensures.after).within

pub returns-in-Some-clause-stood : goal.returns-in-Some-clause-stood
returns-in-Some-clause-stood c = (took_at c.args.pair.now c.acknowledge.new.self c.in-Some.vector c.requires c.in-Some.ensures.before c.in-Some.ensures.vector c.in-Some.ensures.after).stood

pub returns-in-Some-clause-served : goal.returns-in-Some-clause-served
returns-in-Some-clause-served c =
    let t = took_at c.args.pair.now c.acknowledge.new.self c.in-Some.vector c.requires c.in-Some.ensures.before c.in-Some.ensures.vector c.in-Some.ensures.after in
    c.finish.ensures.ended ∙ ap (finished (c.in-Some.vector - 32)) t.after

pub returns-in-Some-clause-taken : goal.returns-in-Some-clause-taken
returns-in-Some-clause-taken c =
    let t = took_at c.args.pair.now c.acknowledge.new.self c.in-Some.vector c.requires c.in-Some.ensures.before c.in-Some.ensures.vector c.in-Some.ensures.after in
    c.finish.ensures.ended ∙ (ap (finished (c.in-Some.vector - 32)) t.after ∙ finished-acknowledged c.args.pair.now (c.in-Some.vector - 32) c.requires t.within)

pub returns-in-None-clause-first : goal.returns-in-None-clause-first
returns-in-None-clause-first c = sym (first_none c.args.pair.now c.requires c.in-None.ensures.before c.in-None.ensures.vector)

pub returns-in-None-clause-none : goal.returns-in-None-clause-none
returns-in-None-clause-none c = empty_latch c.args.pair.now c.in-None.ensures.before (first_none c.args.pair.now c.requires c.in-None.ensures.before c.in-None.ensures.vector)
