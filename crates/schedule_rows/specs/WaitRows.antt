-- Threads that don't run: one that is suspended, and one that sleeps.
use Rattle.std.specs.Prelude.{◌≡◌, [], ◌∷◌, pos, Some}
use Rattle.line_kinds.specs.declared.kinds.HLine.TheVariants.{Edge, Ack, Set}
use Rattle.line_kinds.specs.declared.kinds.RLine.TheVariants.{Release, On, Gate, Ret, End}
use Rattle.line_kinds.specs.declared.kinds.Who.TheVariants.{Guest, Thread, Init}
use Rattle.schedule_rows.specs.Machines.{module_of, r_of, h_of, real_time_end}
use Rattle.schedule_rows.specs.Programs.{idle, suspending_module, sleeping_module}

-- A thread that was suspended before its due isn't released
abbrev pub Suspended : Type 0
Suspended = r_of idle (module_of 1 suspending_module) [] 25
    ≡ (1, On (Init 0)) ∷ (5, Gate 2 (0x11033 ∷ 0xa ∷ 0x11100 ∷ 0x0 ∷ []) (pos 0))
    ∷ (10, Gate 6 (0x0 ∷ 0x14 ∷ 0x3e8 ∷ 0x0 ∷ []) (pos 0)) ∷ (13, Gate 4 (0x0 ∷ 0x14 ∷ 0x3e8 ∷ 0x0 ∷ []) (pos 0))
    ∷ (15, Ret) ∷ (16, On Guest) ∷ []

-- though the one-shot, which was set for it, rises
abbrev pub SuspendedShots : Type 0
SuspendedShots = h_of idle (module_of 1 suspending_module) [] 25 ≡ (10, Set 19) ∷ (20, Edge 0) ∷ (20, Ack 0) ∷ []

-- and the thread stays live, and isn't ready
abbrev pub SuspendedEnd : Type 0
SuspendedEnd = real_time_end idle (module_of 1 suspending_module) [] 25 ≡ Some (End 1 0)

-- A thread that sleeps is released after so many ticks
abbrev pub Sleeping : Type 0
Sleeping = r_of idle (module_of 1 sleeping_module) [] 17
    ≡ (1, On (Init 0)) ∷ (5, Gate 2 (0x11017 ∷ 0xa ∷ 0x11100 ∷ 0x0 ∷ []) (pos 0)) ∷ (7, Ret) ∷ (8, On (Thread 0))
    ∷ (10, Gate 23 (0x7 ∷ 0x0 ∷ 0x0 ∷ 0x0 ∷ []) (pos 0)) ∷ (11, On Guest) ∷ (17, Release 0) ∷ (17, On (Thread 0)) ∷ []

abbrev pub SleepingShots : Type 0
SleepingShots = h_of idle (module_of 1 sleeping_module) [] 17 ≡ (10, Set 13) ∷ (17, Edge 0) ∷ (17, Ack 0) ∷ []

-- and is live and ready then
abbrev pub SleepingEnd : Type 0
SleepingEnd = real_time_end idle (module_of 1 sleeping_module) [] 17 ≡ Some (End 1 1)
