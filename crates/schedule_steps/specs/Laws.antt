-- Releases and the pick neither read nor change the registers of the thread that is on.
use Rattle.std.specs.Prelude.{◌≡◌, ℕ, Bool, Option}
use Rattle.cpu_state.specs.declared.registers.Registers.{Registers}
use Rattle.line_kinds.specs.declared.kinds.Who.{Who}
use Rattle.activity_contexts.specs.Contexts.{live_threads}
use Rattle.priority_schedule.specs.State.{RealTime}
use Rattle.priority_schedule.specs.Release.{Ticking, released}
use Rattle.priority_schedule.specs.Pick.{pick}

-- the state whose thread that is on has these registers
abbrev pub state_live : Option Who → Registers → RealTime → RealTime
state_live on registers m = record m { threads = live_threads on registers m.threads }

abbrev pub ticking_live : Option Who → Registers → Ticking → Ticking
ticking_live on registers s = record s { real = state_live on registers s.real }

abbrev pub ReleasesKeepContexts : Type 0
ReleasesKeepContexts = (k t : ℕ) (on : Option Who) (r : Registers) (s : Ticking) → released k t (ticking_live on r s) ≡ ticking_live on r (released k t s)

abbrev pub PicksKeepContexts : Type 0
PicksKeepContexts = (draining : Bool) (on : Option Who) (r : Registers) (m : RealTime) → pick draining (state_live on r m) ≡ pick draining m
