-- Handlers of lines and of FIFOs, and the calls of a guest: the lines.
use Rattle.std.specs.Prelude.{◌≡◌, [], ◌∷◌, pos, negsuc}
use Rattle.device_script.specs.declared.event.Event.TheVariants.{Line}
use Rattle.line_kinds.specs.declared.kinds.GLine.TheVariants.{Put, Get}
use Rattle.line_kinds.specs.declared.kinds.RLine.TheVariants.{On, Gate, Ret, Reply}
use Rattle.line_kinds.specs.declared.kinds.Who.TheVariants.{Guest, Init, Irq, Fifo}
use Rattle.schedule_rows.specs.Machines.{module_of, r_of, g_of}
use Rattle.schedule_rows.specs.Programs.{idle, calling_guest, owner_module, fifo_module}

-- A line that a module takes goes to its handler from then on
abbrev pub OwnerModule : Type 0
OwnerModule = r_of idle (module_of 1 owner_module) ((2, Line 9) ∷ (8, Line 9) ∷ []) 10
    ≡ (1, On (Init 0)) ∷ (4, Gate 18 (0x9 ∷ 0x11012 ∷ 0x0 ∷ 0x0 ∷ []) (pos 0)) ∷ (6, Ret) ∷ (7, On Guest) ∷ (8, On (Irq 9))
    ∷ (9, Ret) ∷ (10, On Guest) ∷ []

-- The guest's calls are answered, and what comes through marks the FIFO's handler
abbrev pub Replies : Type 0
Replies = r_of calling_guest (module_of 1 fifo_module) [] 24
    ≡ (1, On (Init 0)) ∷ (4, Gate 11 (0x1 ∷ 0x4 ∷ 0x0 ∷ 0x0 ∷ []) (pos 0))
    ∷ (7, Gate 16 (0x1 ∷ 0x1101e ∷ 0x0 ∷ 0x0 ∷ []) (pos 0)) ∷ (9, Ret) ∷ (10, On Guest) ∷ (14, Reply (pos 4) [])
    ∷ (15, On (Fifo 1)) ∷ (16, Ret) ∷ (17, On Guest) ∷ (19, Reply (negsuc 27) [])
    ∷ (22, Reply (pos 4) (0x61 ∷ 0x62 ∷ 0x63 ∷ 0x64 ∷ [])) ∷ (23, On (Fifo 1)) ∷ (24, Ret) ∷ []

-- and the calls are the guest's lines
abbrev pub Calls : Type 0
Calls = g_of calling_guest (module_of 1 fifo_module) [] 24 ≡ (14, Put 1 (0x61 ∷ 0x62 ∷ 0x63 ∷ 0x64 ∷ [])) ∷ (19, Put 1 (0x61 ∷ [])) ∷ (22, Get 1 8) ∷ []
