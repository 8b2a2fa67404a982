use Rattle.std.proofs.Common.{rules, ◌≡◌, ◌<◌, ◌≤ℤ◌, ◌∙◌, ap, nat_abs, pos, Some, refl, subst, w32, to_z, of_z, true, ◌-◌, ◌&&◌, nat_le}
use Rattle.std.specs.Prelude.{slice_set}
use Rattle.memory_model.specs.Side.{inside, stored_inside}
use Rattle.flat_memory.specs.Side.{side_of}
use Rattle.rt_constants.specs.declared.limits.TheConstants.{THREADS_LIMIT}
use Rattle.rt_threads.specs.Threads.{IsBelow, is_ready_in, new_thread}
use Rattle.rt_ready.specs.Order.{is_in}
use Rattle.thread_gates.specs.Changes.{with_listed}
use Rattle.thread_gates.proofs.Agreeing.{agrees_but, agrees_joined}
use Rattle.thread_gates.proofs.Created.{created_answer, created_there, free_place, new_number}
use Rattle.thread_gates.proofs.gates.create.Goals as goal

pub join-requires-clause-absent : goal.join-requires-clause-absent
join-requires-clause-absent c =
    let all = c.args.all.now in
    let z = c.create-result.result in
    let natural : pos 0 ≤ℤ z = search rules in
    let n = new_number all.threads c.args.q.ecx z c.create-result.ensures.result natural in
    let fits : to_z w32 (of_z w32 z) ≡ z = search rules in
    ap (λ k. is_in k all.ready.places) (ap nat_abs (fits ∙ n.is)) ∙ c.requires.agrees.listed n.number ∙ ap is_ready_in (free_place all.threads n.number n.free)

pub returns-then-result-ge0-clause-answer : goal.returns-then-result-ge0-clause-answer
returns-then-result-ge0-clause-answer c = λ latch.
    let all = c.args.all.now in
    let side = side_of c.args.side.now in
    let q = c.args.q in
    let z = c.create-result.result in
    let natural : pos 0 ≤ℤ z = search rules in
    let n = new_number all.threads q.ecx z c.create-result.ensures.result natural in
    let i = n.number in
    let fits : to_z w32 (of_z w32 z) ≡ z = search rules in
    let room : (nat_le 4 q.edx && inside side (q.edx - 4) 4) ≡ true = search rules in
    let stub : side_of c.store32.new.self ≡ stored_inside side (q.edx - 4) 4 side.first = c.store32.ensures.after ∙ ap (stored_inside side (q.edx - 4) 4) c.first.ensures in
    created_answer c.args.now latch q side (side_of c.store32.new.self) all c.join.new.all (to_z w32 (of_z w32 z)) z n room stub
    (c.join.ensures
    ∙ ap (λ k. with_listed k c.from.result (record all { threads = c.create-result.new.self })) (ap nat_abs (fits ∙ n.is))
    ∙ ap (λ t. with_listed i t (record all { threads = c.create-result.new.self })) c.from.ensures
    ∙ ap (λ ts. with_listed i c.args.now (record all { threads = ts })) (c.create-result.ensures.threads ∙ created_there all.threads q.ecx c.starting.result z n)
    ∙ ap (λ r. with_listed i c.args.now (record all { threads = slice_set all.threads i (Some (new_thread q.ecx r)) })) c.starting.ensures)
    fits

pub returns-then-result-ge0-clause-agrees : goal.returns-then-result-ge0-clause-agrees
returns-then-result-ge0-clause-agrees c =
    let all = c.args.all.now in
    let z = c.create-result.result in
    let natural : pos 0 ≤ℤ z = search rules in
    let n = new_number all.threads c.args.q.ecx z c.create-result.ensures.result natural in
    let i = n.number in
    let fits : to_z w32 (of_z w32 z) ≡ z = search rules in
    let below : i < THREADS_LIMIT = subst (IsBelow THREADS_LIMIT) n.is c.create-result.ensures.below in
    agrees_joined i c.args.now (Some (new_thread c.args.q.ecx c.starting.result)) all c.join.new.all below refl
    (c.requires.agrees.listed i ∙ ap is_ready_in (free_place all.threads i n.free)) (agrees_but i all c.requires.agrees)
    (c.join.ensures
    ∙ ap (λ k. with_listed k c.from.result (record all { threads = c.create-result.new.self })) (ap nat_abs (fits ∙ n.is))
    ∙ ap (λ t. with_listed i t (record all { threads = c.create-result.new.self })) c.from.ensures
    ∙ ap (λ ts. with_listed i c.args.now (record all { threads = ts })) (c.create-result.ensures.threads ∙ created_there all.threads c.args.q.ecx c.starting.result z n))
