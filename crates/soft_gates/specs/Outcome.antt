-- What a gate comes to.
use Rattle.std.specs.Prelude.{ℕ, ◌≤◌}
use Rattle.memory_model.specs.Side.{Side}
use Rattle.cpu_state.specs.declared.registers.Access.{Access}
use Rattle.rt_constants.specs.declared.limits.TheConstants.{SPAN_LIMIT}
use Rattle.line_kinds.specs.Calls.{Call}
use Rattle.soft_gates.specs.Calls.{call_of, place_of, IsBounded}
use Rattle.soft_gates.specs.declared.gates.GateUnit.{GateUnit}
use Rattle.soft_gates.specs.declared.gates.GateUnit.TheVariants.{Finished, Halted, Timer, Calls, Outside}

-- it is done; the guest is halted as well; the guest's timer gets a period; there is a call on a FIFO, and the bytes of a get go to a
-- place; or an access is outside
pub data GateOutcome : Type 0 where
  Finishes : GateOutcome
  Halts : GateOutcome
  SetsTimer : (period : ℕ) → GateOutcome
  MakesCall : (call : Call) (place : ℕ) → GateOutcome
  AccessOutside : (access : Access) (at : ℕ) → GateOutcome

abbrev pub outcome_of : GateUnit → GateOutcome
outcome_of Finished = Finishes
outcome_of Halted = Halts
outcome_of (Timer period) = SetsTimer period
outcome_of (Calls call) = MakesCall (call_of call) (place_of call)
outcome_of (Outside access at) = AccessOutside access at

-- a fact where an access was outside
abbrev pub WhenOutside : GateUnit → Type 0 → Type 0
WhenOutside (Outside access at) P = P
WhenOutside _ P = Unit {0}

-- a period is at most 1,000,000,000 ticks, and a call is bounded
abbrev pub IsBoundedUnit : Side → GateUnit → Type 0
IsBoundedUnit side (Timer period) = period ≤ SPAN_LIMIT
IsBoundedUnit side (Calls call) = IsBounded side call
IsBoundedUnit side _ = Unit {0}
