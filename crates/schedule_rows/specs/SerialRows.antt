-- Lines of the serial ports, and what a module prints.
use Rattle.std.specs.Prelude.{◌≡◌, [], ◌∷◌, pos, Some}
use Rattle.device_script.specs.declared.event.Event.TheVariants.{Com2}
use Rattle.line_kinds.specs.declared.kinds.HLine.TheVariants.{Edge, Ack}
use Rattle.line_kinds.specs.declared.kinds.RLine.TheVariants.{On, Gate, Say, Ret, End}
use Rattle.line_kinds.specs.declared.kinds.Who.TheVariants.{Guest, Init, Irq}
use Rattle.schedule_rows.specs.Machines.{module_of, no_module, r_of, h_of, real_time_end}
use Rattle.schedule_rows.specs.Programs.{idle, asking_guest, receiving_module, printing_module}

-- COM1's line rises in the unit that lets it, and is acknowledged in the next tick
abbrev pub UnitEdge : Type 0
UnitEdge = h_of asking_guest no_module [] 8 ≡ (6, Edge 4) ∷ (7, Ack 4) ∷ []

-- A byte for COM2 raises line 3 in its tick, and the handler of the module that holds it starts in that tick
abbrev pub ReceivedByte : Type 0
ReceivedByte = r_of idle (module_of 1 receiving_module) ((15, Com2 0x41) ∷ []) 17
    ≡ (1, On (Init 0)) ∷ (10, Gate 18 (0x3 ∷ 0x11020 ∷ 0x2f9 ∷ 0x0 ∷ []) (pos 0)) ∷ (12, Ret) ∷ (13, On Guest)
    ∷ (15, On (Irq 3)) ∷ (16, Ret) ∷ (17, On Guest) ∷ []

abbrev pub ReceivedEdges : Type 0
ReceivedEdges = h_of idle (module_of 1 receiving_module) ((15, Com2 0x41) ∷ []) 17 ≡ (15, Edge 3) ∷ (15, Ack 3) ∷ []

-- A print is a line of its own behind its gate's
abbrev pub Printed : Type 0
Printed = r_of idle (module_of 1 printing_module) [] 7
    ≡ (1, On (Init 0)) ∷ (4, Gate 24 (0x11012 ∷ 0x3 ∷ 0x0 ∷ 0x0 ∷ []) (pos 0)) ∷ (4, Say (0x72 ∷ 0x74 ∷ 0x6c ∷ [])) ∷ (6, Ret)
    ∷ (7, On Guest) ∷ []

abbrev pub PrintedEnd : Type 0
PrintedEnd = real_time_end idle (module_of 1 printing_module) [] 7 ≡ Some (End 0 0)
