-- Threads beside guests: the real-time lines.
use Rattle.std.specs.Prelude.{◌≡◌, [], ◌∷◌, pos}
use Rattle.line_kinds.specs.declared.kinds.GLine.TheVariants.{Breach}
use Rattle.line_kinds.specs.declared.kinds.BreachKind.TheVariants.{Cli}
use Rattle.line_kinds.specs.declared.kinds.RLine.TheVariants.{Release, On, Gate, Ret}
use Rattle.line_kinds.specs.declared.kinds.Who.TheVariants.{Guest, Thread, Init}
use Rattle.schedule_rows.specs.Machines.{module_of, r_of, g_of}
use Rattle.schedule_rows.specs.Programs.{idle, timer_guest, clearing_guest, periodic_module, long_module, equal_module}

-- A periodic thread is released when it is due, and runs before the guest
abbrev pub Periodic : Type 0
Periodic = r_of idle (module_of 1 periodic_module) [] 29
    ≡ (1, On (Init 0)) ∷ (6, Gate 2 (0x1102f ∷ 0xa ∷ 0x11100 ∷ 0x7 ∷ []) (pos 0))
    ∷ (11, Gate 6 (0x0 ∷ 0x14 ∷ 0x9 ∷ 0x7 ∷ []) (pos 0)) ∷ (13, Ret) ∷ (14, On Guest) ∷ (20, Release 0) ∷ (20, On (Thread 0))
    ∷ (20, Gate 7 (0x0 ∷ 0x0 ∷ 0x0 ∷ 0x0 ∷ []) (pos 0)) ∷ (21, On Guest) ∷ (29, Release 0) ∷ (29, On (Thread 0)) ∷ []

-- Two guests with equal calls have equal real-time lines: one that does nothing
abbrev pub BesideIdle : Type 0
BesideIdle = r_of idle (module_of 1 long_module) [] 24
    ≡ (1, On (Init 0)) ∷ (6, Gate 2 (0x1102f ∷ 0xa ∷ 0x11100 ∷ 0x7 ∷ []) (pos 0))
    ∷ (11, Gate 6 (0x0 ∷ 0x14 ∷ 0x8001 ∷ 0x7 ∷ []) (pos 0)) ∷ (13, Ret) ∷ (14, On Guest) ∷ (20, Release 0)
    ∷ (20, On (Thread 0)) ∷ (20, Gate 7 (0x0 ∷ 0x0 ∷ 0x0 ∷ 0x0 ∷ []) (pos 0)) ∷ (21, On Guest) ∷ []

-- and one that sets its own timer to 3 ticks
abbrev pub BesideTimer : Type 0
BesideTimer = r_of timer_guest (module_of 1 long_module) [] 24
    ≡ (1, On (Init 0)) ∷ (6, Gate 2 (0x1102f ∷ 0xa ∷ 0x11100 ∷ 0x7 ∷ []) (pos 0))
    ∷ (11, Gate 6 (0x0 ∷ 0x14 ∷ 0x8001 ∷ 0x7 ∷ []) (pos 0)) ∷ (13, Ret) ∷ (14, On Guest) ∷ (20, Release 0)
    ∷ (20, On (Thread 0)) ∷ (20, Gate 7 (0x0 ∷ 0x0 ∷ 0x0 ∷ 0x0 ∷ []) (pos 0)) ∷ (21, On Guest) ∷ []

-- Equal priorities: who came first goes first, and a thread of greater priority preempts
abbrev pub EqualPriorities : Type 0
EqualPriorities = r_of idle (module_of 1 equal_module) [] 69
    ≡ (1, On (Init 0)) ∷ (5, Gate 2 (0x11085 ∷ 0xa ∷ 0x11100 ∷ 0x0 ∷ []) (pos 0))
    ∷ (10, Gate 6 (0x0 ∷ 0x3c ∷ 0x3e8 ∷ 0x0 ∷ []) (pos 0)) ∷ (15, Gate 2 (0x11085 ∷ 0xa ∷ 0x11140 ∷ 0x0 ∷ []) (pos 1))
    ∷ (20, Gate 6 (0x1 ∷ 0x3c ∷ 0x3e8 ∷ 0x0 ∷ []) (pos 0)) ∷ (25, Gate 2 (0x11085 ∷ 0x14 ∷ 0x11180 ∷ 0x0 ∷ []) (pos 2))
    ∷ (30, Gate 6 (0x2 ∷ 0x3d ∷ 0x3e8 ∷ 0x0 ∷ []) (pos 0)) ∷ (32, Ret) ∷ (33, On Guest) ∷ (60, Release 0) ∷ (60, Release 1)
    ∷ (60, On (Thread 0)) ∷ (61, Release 2) ∷ (61, On (Thread 2)) ∷ (63, Ret) ∷ (64, On (Thread 0)) ∷ (65, Ret)
    ∷ (66, On (Thread 1)) ∷ (68, Ret) ∷ (69, On Guest) ∷ []

-- A breach of the guest changes nothing of the real-time side
abbrev pub BesideBreach : Type 0
BesideBreach = r_of clearing_guest (module_of 1 equal_module) [] 69
    ≡ (1, On (Init 0)) ∷ (5, Gate 2 (0x11085 ∷ 0xa ∷ 0x11100 ∷ 0x0 ∷ []) (pos 0))
    ∷ (10, Gate 6 (0x0 ∷ 0x3c ∷ 0x3e8 ∷ 0x0 ∷ []) (pos 0)) ∷ (15, Gate 2 (0x11085 ∷ 0xa ∷ 0x11140 ∷ 0x0 ∷ []) (pos 1))
    ∷ (20, Gate 6 (0x1 ∷ 0x3c ∷ 0x3e8 ∷ 0x0 ∷ []) (pos 0)) ∷ (25, Gate 2 (0x11085 ∷ 0x14 ∷ 0x11180 ∷ 0x0 ∷ []) (pos 2))
    ∷ (30, Gate 6 (0x2 ∷ 0x3d ∷ 0x3e8 ∷ 0x0 ∷ []) (pos 0)) ∷ (32, Ret) ∷ (33, On Guest) ∷ (60, Release 0) ∷ (60, Release 1)
    ∷ (60, On (Thread 0)) ∷ (61, Release 2) ∷ (61, On (Thread 2)) ∷ (63, Ret) ∷ (64, On (Thread 0)) ∷ (65, Ret)
    ∷ (66, On (Thread 1)) ∷ (68, Ret) ∷ (69, On Guest) ∷ []

-- and the breach is all that the guest says
abbrev pub BreachLine : Type 0
BreachLine = g_of clearing_guest (module_of 1 equal_module) [] 69 ≡ (33, Breach Cli) ∷ []
