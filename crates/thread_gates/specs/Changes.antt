-- A thread's place in the ready list and among the dues, once the thread itself was changed.
use Rattle.std.specs.Prelude.{ℕ, None}
use Rattle.rt_threads.specs.declared.threads.State.TheVariants.{Ready}
use Rattle.rt_threads.specs.Threads.{due_at, priority_of, with_state, with_thread}
use Rattle.rt_timeline.specs.declared.timeline.Due.TheVariants.{Thread}
use Rattle.rt_timeline.specs.Dues.{with_due}
use Rattle.rt_ready.specs.Order.{joined, placed, without_place}
use Rattle.gate_table.specs.Gates.{GateParts}
use Rattle.executive.specs.declared.executive.Executive.{Executive}
use Rattle.executive.specs.Agreement.{Agrees}

-- a thread stands in no list, and its due is the one until which it waits, if it does
abbrev pub without_listed : ℕ → Executive → Executive
without_listed i all = record all {
  ready = record all.ready { places = without_place i all.ready.places };
  timeline = with_due (Thread i) (due_at all.threads i) all.timeline;
}

-- a thread comes last in the ready list, ready since a tick, and has no due
abbrev pub with_listed : ℕ → ℕ → Executive → Executive
with_listed i since all = record all {
  ready = placed i (priority_of all.threads i) since all.ready;
  timeline = with_due (Thread i) None all.timeline;
}

-- the parts agree, but that a thread's own due may have been taken out
abbrev pub AgreesButDue : ℕ → Executive → Type 0
AgreesButDue i all = Agrees (record all { timeline = with_due (Thread i) (due_at all.threads i) all.timeline })

-- a release, as the parts that gates use
abbrev pub released : ℕ → ℕ → GateParts → GateParts
released i since p = record p { threads = with_thread i (with_state Ready) p.threads; ready = joined i since p.ready }
