-- Faults of an init: the real-time lines.
use Rattle.std.specs.Prelude.{◌≡◌, [], ◌∷◌}
use Rattle.line_kinds.specs.declared.kinds.FaultKind.TheVariants.{Divide, Opcode, Int, Memory, Port, Privileged}
use Rattle.line_kinds.specs.declared.kinds.RLine.TheVariants.{On, Fault}
use Rattle.line_kinds.specs.declared.kinds.Who.TheVariants.{Guest, Init}
use Rattle.schedule_rows.specs.Machines.{module_of, r_of}
use Rattle.schedule_rows.specs.Programs.{idle, dividing_module, halting_module, port_module, loading_module, trapping_module, opcode_module}

-- Faults of an init, each with its kind
abbrev pub DivideFault : Type 0
DivideFault = r_of idle (module_of 1 dividing_module) [] 2
    ≡ (1, On (Init 0)) ∷ (1, Fault (Init 0) Divide) ∷ (2, On Guest) ∷ []

-- Privileged likewise
abbrev pub PrivilegedFault : Type 0
PrivilegedFault = r_of idle (module_of 1 halting_module) [] 2
    ≡ (1, On (Init 0)) ∷ (1, Fault (Init 0) Privileged) ∷ (2, On Guest) ∷ []

-- Memory likewise
abbrev pub MemoryFault : Type 0
MemoryFault = r_of idle (module_of 1 loading_module) [] 2
    ≡ (1, On (Init 0)) ∷ (1, Fault (Init 0) Memory) ∷ (2, On Guest) ∷ []

-- Int likewise
abbrev pub IntFault : Type 0
IntFault = r_of idle (module_of 1 trapping_module) [] 2
    ≡ (1, On (Init 0)) ∷ (1, Fault (Init 0) Int) ∷ (2, On Guest) ∷ []

-- Opcode likewise
abbrev pub OpcodeFault : Type 0
OpcodeFault = r_of idle (module_of 1 opcode_module) [] 2
    ≡ (1, On (Init 0)) ∷ (1, Fault (Init 0) Opcode) ∷ (2, On Guest) ∷ []

-- a port of the guest's COM1, in the second instruction
abbrev pub PortFault : Type 0
PortFault = r_of idle (module_of 1 port_module) [] 3
    ≡ (1, On (Init 0)) ∷ (2, Fault (Init 0) Port) ∷ (3, On Guest) ∷ []
