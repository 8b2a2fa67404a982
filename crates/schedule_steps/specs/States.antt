-- The state of the real-time side that an executive stands for.
use Rattle.std.specs.Prelude.{◌≡◌, ℕ, Bool, true, List, Option, option_map}
use Rattle.line_kinds.specs.declared.kinds.RLine.{RLine}
use Rattle.line_kinds.specs.declared.kinds.Who.{Who}
use Rattle.line_kinds.specs.declared.kinds.Who.TheVariants.{Init}
use Rattle.executive.specs.declared.executive.Executive.{Executive}
use Rattle.executive.specs.Parts.{gate_parts}
use Rattle.priority_schedule.specs.State.{RealTime, with_parts}
use Rattle.priority_schedule.specs.Release.{Ticking}
use Rattle.priority_schedule.specs.Pick.{next_module}

-- where these lines are latched; what no executive has is that of a given state
abbrev pub real_with : ℕ → Executive → RealTime → RealTime
real_with latch all m = with_parts (gate_parts latch m.side all) m

-- with the lines of the tick so far
abbrev pub ticking : ℕ → Executive → RealTime → List RLine → Ticking
ticking latch all m lines = record { real = real_with latch all m; lines = lines }

-- a state that a pick is of: the version is the ready list's, this is on and this module's init is next; and where the tick drains, its
-- drain has left no line latched
pub record IsBeforePick (draining : Bool) (on : Option Who) (module_next : Option ℕ) (latch : ℕ) (all : Executive) (m : RealTime) : Type 0 where
  pub version : m.version ≡ all.ready.version
  pub holder : m.on ≡ on
  pub init : next_module m.modules ≡ option_map Init module_next
  pub drained : draining ≡ true → latch ≡ 0
