use Rattle.std.proofs.Common.{◌≡◌, ℕ, List, subst}
use Rattle.std.specs.Prelude.{IfOk}
use Rattle.priority_schedule.specs.State.{first_state}
use Rattle.machine_state.specs.Parts.{MachineParts}
use Rattle.machine_state.specs.States.{real_of}
use Rattle.rt_core.specs.Start.{real_start_of}
use Rattle.run_stream.proofs.Ran.{booted}
use Rattle.run_stream.proofs.stream.boot.Goals as goal

pub returns : goal.returns
returns c =
    let real = subst (λ (inits : List ℕ). IfOk c.boot.result (λ (m : MachineParts). real_of m ≡ first_state (real_start_of c.args.run.sides.memory c.args.run.version inits))) c.into_vec.ensures c.boot.ensures.real_time in
    booted c.args.run c.boot.result c.requires.script c.boot.ensures.guest real c.boot.ensures.hardware c.boot.ensures.stands c.boot.ensures.coming c.boot.ensures.ticks
