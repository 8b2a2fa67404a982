use Rattle.std.proofs.Common.{◌<◌, ap, arith, ◌∙◌, option_map}
use Rattle.rt_constants.specs.declared.limits.TheConstants.{THREADS_LIMIT}
use Rattle.rt_threads.specs.declared.threads.State.TheVariants.{Ready}
use Rattle.rt_threads.specs.Threads.{thread_at, with_state}
use Rattle.thread_gates.specs.Changes.{with_listed}
use Rattle.thread_gates.proofs.Agreeing.{agrees_joined}
use Rattle.thread_gates.proofs.Rows.{live_below, ready_changed}
use Rattle.thread_gates.proofs.lists.release.Goals as goal

pub returns-clause-agrees : goal.returns-clause-agrees
returns-clause-agrees c =
    let i = c.args.id in
    let all = c.args.all.now in
    let small = live_below all.threads i c.requires.live in
    let size = c.requires.agrees.places in
    let below : i < THREADS_LIMIT = omega (arith, small, size) in
    agrees_joined i c.args.since (option_map (with_state Ready) (thread_at all.threads i)) all c.join.new.all below
    (ready_changed (thread_at all.threads i) c.requires.live) (c.requires.agrees.listed i ∙ c.requires.idle) c.requires.agrees
    (c.join.ensures ∙ ap (λ ts. with_listed i c.args.since (record all { threads = ts })) c.release.ensures)
