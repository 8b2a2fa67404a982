use Rattle.std.proofs.Common.{◌++◌, ◌∷◌, [], ◌∙◌, ap, arith, subst, sym}
use Rattle.rt_timeline.specs.Dues.{Dues}
use Rattle.line_kinds.specs.declared.kinds.RLine.TheVariants.{Release}
use Rattle.thread_gates.specs.Changes.{AgreesButDue}
use Rattle.thread_gates.proofs.Agreeing.{agrees_taken}
use Rattle.schedule_steps.proofs.Taking.{due_taken, fewer, guest_round_by, is_first_by, none_round, not_ready, thread_round}
use Rattle.schedule_steps.proofs.releases.release_next.Goals as goal

pub release-requires-clause-live : goal.release-requires-clause-live
release-requires-clause-live c =
    let s = c.in-Some-Thread-default in
    (is_first_by c.args.now c.from.result s.id s.due s.field-0-0 c.take_due.result c.args.all.now c.requires.agrees c.from.ensures c.take_due.ensures.first s.is s.field-0-0-is).live

pub release-requires-clause-idle : goal.release-requires-clause-idle
release-requires-clause-idle c =
    let s = c.in-Some-Thread-default in
    let all = c.args.all.now in
    not_ready _ s.due (is_first_by c.args.now c.from.result s.id s.due s.field-0-0 c.take_due.result all c.requires.agrees c.from.ensures c.take_due.ensures.first s.is s.field-0-0-is).held

pub release-requires-clause-agrees : goal.release-requires-clause-agrees
release-requires-clause-agrees c =
    let s = c.in-Some-Thread-default in
    let all = c.args.all.now in
    subst (λ (d : Dues). AgreesButDue s.id (record all { timeline = d }))
    (sym (due_taken s.id s.due s.field-0-0 c.take_due.result all.timeline c.take_due.new.self c.take_due.ensures.rest s.is s.field-0-0-is))
    (agrees_taken s.id all c.requires.agrees)

pub push_r-requires : goal.push_r-requires
push_r-requires c =
    let s = c.in-Some-Thread-default in
    let all = c.args.all.now in
    let less = fewer c.args.now s.id s.due all c.requires.agrees (is_first_by c.args.now c.from.result s.id s.due s.field-0-0 c.take_due.result all c.requires.agrees c.from.ensures c.take_due.ensures.first s.is s.field-0-0-is) in
    let room = c.requires.room in
    omega (arith, less, room)

pub returns-in-Some-Thread-default : goal.returns-in-Some-Thread-default
returns-in-Some-Thread-default c =
    let s = c.in-Some-Thread-default in
    let all = c.args.all.now in
    let lines = c.args.lines.now in
    thread_round c.args.now s.id s.due all (record all { timeline = c.take_due.new.self }) c.release.new.all lines c.push_r.new.self c.requires.agrees
    (is_first_by c.args.now c.from.result s.id s.due s.field-0-0 c.take_due.result all c.requires.agrees c.from.ensures c.take_due.ensures.first s.is s.field-0-0-is)
    (ap (λ (d : Dues). record all { timeline = d }) (due_taken s.id s.due s.field-0-0 c.take_due.result all.timeline c.take_due.new.self c.take_due.ensures.rest s.is s.field-0-0-is))
    c.release.ensures.after
    c.release.ensures.parts
    c.release.ensures.agrees
    (c.push_r.ensures ∙ ap (λ n. record lines { r = lines.r ++ Release n ∷ [] }) c.from-in-Some-Thread-default.ensures)

pub returns-in-Some-Guest-default : goal.returns-in-Some-Guest-default
returns-in-Some-Guest-default c =
    let s = c.in-Some-Guest-default in
    guest_round_by c.args.now c.from.result s.field-0-1 s.field-0-0 c.take_due.result c.args.all.now c.take_due.new.self c.args.lines.now
    c.requires.agrees c.from.ensures c.take_due.ensures.first c.take_due.ensures.rest s.is s.field-0-0-is

pub returns-in-None : goal.returns-in-None
returns-in-None c = none_round c.args.now c.from.result c.take_due.result c.args.all.now c.take_due.new.self c.args.lines.now c.requires.agrees c.from.ensures c.take_due.ensures.first c.take_due.ensures.rest c.in-None.is
