-- When latched lines are acknowledged: the lines of the hardware.
use Rattle.std.specs.Prelude.{◌≡◌, [], ◌∷◌}
use Rattle.device_script.specs.declared.event.Event.TheVariants.{Line}
use Rattle.line_kinds.specs.declared.kinds.GLine.TheVariants.{Enter}
use Rattle.line_kinds.specs.declared.kinds.HLine.TheVariants.{Edge, Ack, Set}
use Rattle.line_kinds.specs.declared.kinds.RLine.TheVariants.{On}
use Rattle.line_kinds.specs.declared.kinds.Who.TheVariants.{Guest}
use Rattle.line_kinds.specs.declared.kinds.Line.TheVariants.{R, G, H}
use Rattle.schedule_rows.specs.Machines.{module_of, no_module, h_of, output_of}
use Rattle.schedule_rows.specs.Programs.{idle, pending_guest, arrival_module, owner_module}

-- Each edge is latched and acknowledged in its tick
abbrev pub PendingEdges : Type 0
PendingEdges = h_of pending_guest no_module ((3, Line 5) ∷ (4, Line 5) ∷ []) 13
    ≡ (3, Edge 5) ∷ (3, Ack 5) ∷ (4, Edge 5) ∷ (4, Ack 5) ∷ []

-- While an init runs, the latched rise waits: its acknowledgement is that of the first tick that drains
abbrev pub LateAck : Type 0
LateAck = h_of idle (module_of 1 arrival_module) [] 24 ≡ (10, Set 3) ∷ (12, Edge 0) ∷ (18, Ack 0) ∷ []

-- Line 9 is acknowledged in the tick in which its owner changes, and then for its handler
abbrev pub OwnerAck : Type 0
OwnerAck = h_of idle (module_of 1 owner_module) ((2, Line 9) ∷ (8, Line 9) ∷ []) 10
    ≡ (2, Edge 9) ∷ (4, Ack 9) ∷ (8, Edge 9) ∷ (8, Ack 9) ∷ []

-- All lines in one order: a tick's real-time lines, then the hardware's, then the guest's
abbrev pub InOrder : Type 0
InOrder = output_of pending_guest no_module ((3, Line 5) ∷ (4, Line 5) ∷ []) 13
    ≡ (1, R (On Guest)) ∷ (3, H (Edge 5)) ∷ (3, H (Ack 5)) ∷ (4, H (Edge 5)) ∷ (4, H (Ack 5)) ∷ (10, G (Enter 37)) ∷ []
