-- Which of two threads of equal priority goes first, by version: the real-time lines.
use Rattle.std.specs.Prelude.{◌≡◌, [], ◌∷◌, pos}
use Rattle.line_kinds.specs.declared.kinds.RLine.TheVariants.{Release, On, Gate, Ret}
use Rattle.line_kinds.specs.declared.kinds.Who.TheVariants.{Guest, Thread, Init}
use Rattle.schedule_rows.specs.Machines.{module_of, r_of}
use Rattle.schedule_rows.specs.Programs.{idle, arrival_module}

-- Version 1: among equal priorities the thread that is ready since the later tick, but came first
abbrev pub ByArrival : Type 0
ByArrival = r_of idle (module_of 1 arrival_module) [] 24
    ≡ (1, On (Init 0)) ∷ (5, Gate 2 (0x11043 ∷ 0xa ∷ 0x11100 ∷ 0x0 ∷ []) (pos 0))
    ∷ (10, Gate 6 (0x0 ∷ 0xc ∷ 0x3e8 ∷ 0x0 ∷ []) (pos 0)) ∷ (15, Gate 2 (0x11043 ∷ 0xa ∷ 0x11140 ∷ 0x0 ∷ []) (pos 1))
    ∷ (17, Ret) ∷ (18, Release 0) ∷ (18, On (Thread 1)) ∷ (20, Ret) ∷ (21, On (Thread 0)) ∷ (23, Ret) ∷ (24, On Guest) ∷ []

-- Version 2: the one of the earlier due
abbrev pub EarliestDue : Type 0
EarliestDue = r_of idle (module_of 2 arrival_module) [] 24
    ≡ (1, On (Init 0)) ∷ (5, Gate 2 (0x11043 ∷ 0xa ∷ 0x11100 ∷ 0x0 ∷ []) (pos 0))
    ∷ (10, Gate 6 (0x0 ∷ 0xc ∷ 0x3e8 ∷ 0x0 ∷ []) (pos 0)) ∷ (15, Gate 2 (0x11043 ∷ 0xa ∷ 0x11140 ∷ 0x0 ∷ []) (pos 1))
    ∷ (17, Ret) ∷ (18, Release 0) ∷ (18, On (Thread 0)) ∷ (20, Ret) ∷ (21, On (Thread 1)) ∷ (23, Ret) ∷ (24, On Guest) ∷ []
